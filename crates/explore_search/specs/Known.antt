-- States that keep a machine which a landing leads to.
use Rattle.std.specs.Prelude.{◌≡◌, IfSome, List, Some, [], ◌∷◌, ◌++◌}
use Rattle.std.specs.List.{All}
use Rattle.step_kinds.specs.declared.plan.Plan.{Plan}
use Rattle.step_kinds.specs.declared.steps.Step.{Step}
use Rattle.explore_model.specs.Schedules.{landing_step}
use Rattle.explore_model.specs.declared.outcome.Landing.{Landing}
use Rattle.explore_search.specs.declared.states.State.{State}

module _ {M : Type 0} where
  -- the machines that states keep are of this plan
  abbrev pub AreOfPlan : (M → Plan) → Plan → List (State M) → Type 0
  AreOfPlan plan_held plan states = All (λ state. IfSome state.machine (λ kept. plan ≡ plan_held kept)) states

  -- a state keeps a machine that has made whatever another has made, and the landing after it
  pub record IsLandedIn (has_made : M → Plan → List Step → Type 0) (machine : M) (landing : Landing) (state : State M) : Type 0 where
    pub kept : M
    pub is : state.machine ≡ Some kept
    pub merges : (plan : Plan) (steps : List Step) → has_made machine plan steps → has_made kept plan (steps ++ landing_step landing ∷ [])
