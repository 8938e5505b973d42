-- The steps that are made along a path: those of a script, with landings between them.
use Rattle.std.specs.Prelude.{ℕ, ◌-◌, ◌≤◌, List, [], ◌∷◌, ◌++◌, drop, map, take}
use Rattle.std.specs.List.{All, fold}
use Rattle.step_kinds.specs.declared.plan.Line.{Line}
use Rattle.step_kinds.specs.declared.plan.Plan.{Plan}
use Rattle.step_kinds.specs.declared.steps.Step.{Step}
use Rattle.pair_model.specs.PlanParts.{steps_in}
use Rattle.pair_model.specs.DeclaredPlans.{IsDeclared}
use Rattle.pair_model.specs.Switches.{AreSwitches, IsMakeable}
use Rattle.explore_model.specs.Schedules.{IsLanding, landing_step}
use Rattle.explore_model.specs.declared.outcome.Landing.{Landing}

-- the steps of a plan
abbrev pub search_script_of : Plan → List Step
search_script_of plan = steps_in plan.steps

-- a plan that a script can declare
pub record IsExplorable (plan : Plan) : Type 0 where
  pub declared : IsDeclared plan
  pub switches : AreSwitches plan
  pub steps : All (λ line. IsMakeable plan line.step) plan.steps

-- a further landing, before which no more than this many steps of the plan were made
pub record IsLandingBy (plan : Plan) (done : ℕ) (landing : Landing) : Type 0 where
  pub may : IsLanding plan landing
  pub at : landing.at ≤ done

-- the steps of a list from one place up to another
abbrev pub between : List Step → ℕ → ℕ → List Step
between steps from to = take (to - from) (drop from steps)

-- how many steps of a script were made, and all that was made
pub record Walked : Type 0 where
  pub at : ℕ
  pub made : List Step

-- the script goes on up to a landing
abbrev pub landed_then : List Step → Walked → Landing → Walked
landed_then script before landing = record { at = landing.at; made = (before.made ++ between script before.at landing.at) ++ landing_step landing ∷ [] }

-- what was made up to the last of some landings
abbrev pub walked : List Step → List Landing → Walked
walked script landings = fold (landed_then script) (record { at = 0; made = [] }) landings

-- all that was made when this many steps of the script were
unfoldable pub path : List Step → List Landing → ℕ → List Step
path script landings done = (walked script landings).made ++ between script (walked script landings).at done
