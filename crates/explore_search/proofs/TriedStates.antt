-- States from which all landings were tried.
use Rattle.std.proofs.Common.{◌≡◌, ◌∙◌, ℕ, ◌+◌, ◌<◌, ◌≤◌, inl, inr, List, arith, get_or, length, subst, sym, ap}
use Rattle.std.specs.List.{HoldsAt}
use Rattle.std.proofs.lemmas.List.{get_or_read}
use Rattle.step_kinds.specs.declared.plan.Plan.{Plan}
use Rattle.step_kinds.specs.declared.steps.Step.{Step}
use Rattle.ledger_model.specs.Memory.{memory_of}
use Rattle.ledger_model.specs.NetworkLog.{answer_after}
use Rattle.explore_model.specs.Schedules.{landing_step}
use Rattle.explore_model.specs.declared.outcome.Landing.{Landing}
use Rattle.explore_search.specs.Spread.{AreTried, IsSpread, Lands}
use Rattle.explore_search.specs.States.{HaveGrown, Reaches}
use Rattle.explore_search.specs.declared.states.State.{State}
use Rattle.explore_search.proofs.StatesAdded.{lands_kept, spread_kept, stands_still}
use Rattle.explore_search.proofs.LandedAnswers.{nothing_not_landed}
use Rattle.explore_search.proofs.Lists.{each_more}

module _ {M : Type 0} (has_made : M → Plan → List Step → Type 0) (plan_held : M → Plan) (key_of : M → List ℕ) (plan : Plan) (done : ℕ) where
  -- one landing more was tried
  pub led_more : (old now new : List (State M)) (from : ℕ) (landings : List Landing) (i : ℕ) (d : Landing) → from < length old → i < length landings →
      HaveGrown has_made plan_held key_of plan done old now → HaveGrown has_made plan_held key_of plan done now new →
      ((k : ℕ) (d : Landing) (state : State M) → k < i → Lands has_made plan done now (get_or old from state) (get_or landings k d)) →
      HoldsAt (λ state. Lands has_made plan done new state (get_or landings i d)) now from →
      (k : ℕ) (d : Landing) (state : State M) → k < i + 1 → Lands has_made plan done new (get_or old from state) (get_or landings k d)
  led_more old now new from landings i d below within first second before here k e state small =
      each_more (Lands has_made plan done now (get_or old from state)) (Lands has_made plan done new (get_or old from state)) landings i d within
      (λ landing lead. lands_kept has_made plan_held key_of plan done now new (get_or old from state) landing second lead)
      (λ k e earlier. before k e state earlier)
      (subst (λ (state : State M). Lands has_made plan done new state (get_or landings i d)) (stands_still has_made plan_held key_of plan done old now from state first below) (here state))
      k e small

  -- all were
  pub spread_by_tried : (old new : List (State M)) (from : ℕ) (state : State M) (items landings : List Landing) (i : ℕ) → from < length old → state ≡ get_or old from state →
      items ≡ landings → length items ≤ i → AreTried has_made plan done state landings →
      ((k : ℕ) (d : Landing) (state : State M) → k < i → Lands has_made plan done new (get_or old from state) (get_or items k d)) →
      HoldsAt (IsSpread has_made plan done new) old from
  spread_by_tried old new from state items landings i below is same all tried led d landing next =
      elim (tried.all landing next) [
        | inl has ↦ (let size = ap length same in
            subst (λ (landing : Landing). Lands has_made plan done new (get_or old from d) landing)
            (ap (λ (landings : List Landing). get_or landings has.0 landing) same ∙ has.2) (led has.0 landing d (omega (arith, has.1))))
        | inr idle ↦ (λ made reaches landed.
            absurd
            (nothing_not_landed (answer_after plan (memory_of plan) made (landing_step landing))
            (idle made (subst (λ (state : State M). Reaches has_made plan done state made) (sym (get_or_read old from state below is d)) reaches)) landed))
      ]

  -- one state more was spread
  pub spread_more : (now new : List (State M)) (from : ℕ) → from < length now → HaveGrown has_made plan_held key_of plan done now new →
      ((k : ℕ) (d : State M) → k < from → IsSpread has_made plan done now (get_or now k d)) → HoldsAt (IsSpread has_made plan done new) now from →
      (k : ℕ) (d : State M) → k < from + 1 → IsSpread has_made plan done new (get_or new k d)
  spread_more now new from below grown before here k d small =
      subst (λ (state : State M). IsSpread has_made plan done new state) (sym (stands_still has_made plan_held key_of plan done now new k d grown (omega arith)))
      (each_more (IsSpread has_made plan done now) (IsSpread has_made plan done new) now from d below
      (λ state spread. spread_kept has_made plan_held key_of plan done now new state grown spread) before (here d) k d small)
