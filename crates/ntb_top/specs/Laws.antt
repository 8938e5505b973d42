-- What status 0 means of the commands that run no threads: `Ends` says it of `run` and `stream`, and a check has no
-- such law.
use Rattle.std.specs.Prelude.{◌≡◌, ℕ, Some, Ok, List}
use Rattle.io_edges.specs.Whole.{HoldsAll}
use Rattle.step_kinds.specs.declared.plan.Plan.{Plan}
use Rattle.explore_command.specs.Answers.{has_made}
use Rattle.explore_model.specs.Outcomes.{IsExplored}
use Rattle.explore_model.specs.States.{IsCensus}
use Rattle.explore_model.specs.Texts.{explored_text}
use Rattle.explore_model.specs.declared.outcome.Outcome.{Outcome}
use Rattle.reads_command.specs.Answers.{IsTrueReply}
use Rattle.script_text.specs.Script.{script_of}
use Rattle.traffic_plan.specs.Load.{load_of}
use Rattle.replay_command.specs.Headline.{IsTrueLog}
use Rattle.ledger_model.specs.PlanLog.{steps_of}
use Rattle.replay_command.specs.Replays.{load_text, replay_text}
use Rattle.trace_command.specs.Answers.{HasTrueTrace}
use Rattle.trace_command.specs.Trace.{trace_text}
use Rattle.ntb_top.specs.Commands.{command_of}
use Rattle.ntb_top.specs.Runs.{HasRun, Outside}
use Rattle.ntb_top.specs.declared.command.Command.TheVariants.{Plain}
use Rattle.ntb_top.specs.declared.command.PlainCommand.TheVariants.{Explore, Load, Reads, Replay, Trace}

-- `replay`: the bytes that were read declare a plan, its report was written whole, and its log is true
abbrev pub ReplaysAreTrue : Type 0
ReplaysAreTrue =
    (words : List (List ℕ)) (before after : Outside) → command_of words ≡ Some (Plain Replay) → (run : HasRun words before after 0) →
    (plan : Plan) × (script_of run.bytes ≡ Ok plan) × HoldsAll before.held after.held (replay_text plan) × IsTrueLog plan

-- `load`: the summary was written whole, and the log of the generated plan is true
abbrev pub LoadsAreTrue : Type 0
LoadsAreTrue =
    (words : List (List ℕ)) (before after : Outside) (seed frames : ℕ) → command_of words ≡ Some (Plain (Load seed frames)) → HasRun words before after 0 →
    HoldsAll before.held after.held (load_text seed frames) × IsTrueLog (load_of seed frames)

-- `reads`: a text that is true of the bytes that were read was written whole
abbrev pub ReadsAreTrue : Type 0
ReadsAreTrue =
    (words : List (List ℕ)) (before after : Outside) → command_of words ≡ Some (Plain Reads) → (run : HasRun words before after 0) →
    (text : List ℕ) × HoldsAll before.held after.held text × IsTrueReply run.bytes text

-- `trace`: the bytes that were read declare a plan, its trace was written whole, and what it says of writes is true
abbrev pub TracesAreTrue : Type 0
TracesAreTrue =
    (words : List (List ℕ)) (before after : Outside) → command_of words ≡ Some (Plain Trace) → (run : HasRun words before after 0) →
    (plan : Plan) × (script_of run.bytes ≡ Ok plan) × HoldsAll before.held after.held (trace_text plan) × HasTrueTrace plan

-- `explore`: the bytes that were read declare a plan, and the text was written whole of all outcomes of its schedules
-- and of the number of states that they reach
abbrev pub ExplorationsAreTrue : Type 0
ExplorationsAreTrue =
    (words : List (List ℕ)) (before after : Outside) → command_of words ≡ Some (Plain Explore) → (run : HasRun words before after 0) →
    (plan : Plan) × (found : List Outcome) × (states : ℕ) × (script_of run.bytes ≡ Ok plan) × HoldsAll before.held after.held (explored_text plan found states)
    × IsExplored plan (steps_of plan) found × IsCensus has_made plan (steps_of plan) states
