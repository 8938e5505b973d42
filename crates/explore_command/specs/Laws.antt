-- What the laws of `explore` speak of.
use Rattle.std.specs.Prelude.{◌≡◌, ℕ, Ok, List}
use Rattle.explore_command.specs.Answers.{has_made}
use Rattle.explore_model.specs.States.{HasMoreThan, most_states}
use Rattle.explore_search.specs.Paths.{search_script_of as steps_of}
use Rattle.script_text.specs.Script.{script_of}
use Rattle.step_kinds.specs.declared.plan.Plan.{Plan}

-- these bytes are a script whose schedules reach more states than an exploration may
abbrev pub ReachTooMany : List ℕ → Type 0
ReachTooMany bytes = (plan : Plan) × (script_of bytes ≡ Ok plan) × HasMoreThan has_made plan (steps_of plan) most_states
