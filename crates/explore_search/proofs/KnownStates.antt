-- A landing that leads to a state which keeps a machine.
use Rattle.std.proofs.Common.{◌≡◌, ℕ, List, Option, Some, subst}
use Rattle.std.specs.List.{All, Any}
use Rattle.std.specs.Prelude.{IfSome}
use Rattle.step_kinds.specs.declared.plan.Plan.{Plan}
use Rattle.step_kinds.specs.declared.steps.Step.{Step}
use Rattle.explore_model.specs.declared.outcome.Landing.{Landing}
use Rattle.explore_search.specs.Known.{IsLandedIn}
use Rattle.explore_search.specs.Machines.{HaveSameSteps}
use Rattle.explore_search.specs.Spread.{Lands}
use Rattle.explore_search.specs.States.{IsMachineAt, IsState, made_to}
use Rattle.explore_search.specs.declared.states.State.{State}

module _ {M : Type 0} (has_made : M → Plan → List Step → Type 0) (plan_held : M → Plan) (key_of : M → List ℕ) where
  -- what is so of the machine that a state keeps
  kept_is : (P : M → Type 0) (found : Option M) (kept : M) → found ≡ Some kept → IfSome found P → P kept
  kept_is P found kept is all = subst (λ (found : Option M). IfSome found P) is all

  -- a landing after which a state's machine is known to be in one of these states leads to one of them
  pub leads_to_known : (same : HaveSameSteps has_made) (plan : Plan) (done : ℕ) (states : List (State M)) (state : State M) (machine : M) (landing : Landing) →
      All (IsState has_made plan_held key_of plan done) states → has_made machine plan (made_to plan done state) → Any (IsLandedIn has_made machine landing) states → Lands has_made plan done states state landing
  leads_to_known same plan done states state machine landing all at (place, found, within, is, landed) made reaches lands =
      let has = same plan (made_to plan done state) made reaches.0 machine reaches.1 at reaches.2 in
      let own = kept_is (IsMachineAt has_made plan_held plan (made_to plan done found)) found.machine landed.kept landed.is
      (subst (λ (state : State M). IfSome state.machine (IsMachineAt has_made plan_held plan (made_to plan done state))) is (all place found within).kept) in
      (place, found, within, is, (landed.kept, own.made, landed.merges plan made has))
