-- The result of a search.
use Rattle.std.specs.Prelude.{◌≤◌, List, [], ◌∷◌}
use Rattle.step_kinds.specs.declared.plan.Plan.{Plan}
use Rattle.step_kinds.specs.declared.steps.Step.{Step}
use Rattle.explore_model.specs.Outcomes.{IsExplored}
use Rattle.explore_model.specs.States.{HasMoreThan, IsCensus, most_states}
use Rattle.explore_model.specs.declared.outcome.Landing.{Landing}
use Rattle.explore_model.specs.declared.outcome.Outcome.{Outcome}
use Rattle.explore_search.specs.Paths.{search_script_of}
use Rattle.explore_search.specs.declared.layers.Group.{Group}
use Rattle.explore_search.specs.declared.states.State.{State}
use Rattle.explore_search.specs.declared.search.Explored.{Explored}
use Rattle.explore_search.specs.declared.search.Explored.TheVariants.{Done, TooMany}

-- all outcomes of a plan's script with the number of states; or there are more states than a search goes through
abbrev pub IsExploration : {M : Type 0} → (M → Plan → List Step → Type 0) → Plan → Explored → Type 0
IsExploration has_made plan (Done outcomes states) =
    IsExplored plan (search_script_of plan) outcomes.items × IsCensus has_made plan (search_script_of plan) states × (states ≤ most_states)
IsExploration has_made plan TooMany = HasMoreThan has_made plan (search_script_of plan) most_states

-- the landings on the path to the first of some states
abbrev pub first_landings : {M : Type 0} → List (State M) → List Landing
first_landings [] = []
first_landings (state ∷ states) = state.landings.items

-- the outcome of a group
abbrev pub outcome_of : {M : Type 0} → Group M → Outcome
outcome_of group = record { answers = group.answers; landings = first_landings group.states }
