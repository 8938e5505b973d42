-- When a state is that of a machine.
use Rattle.std.proofs.Common.{inl, inr, ◌≡◌, ◌∙◌, ◌↔◌, ℕ, ◌+◌, ◌<◌, ◌≤◌, Bool, IsTrue, List, Option, arith, get_or, length, subst, sym}
use Rattle.std.specs.List.{All}
use Rattle.std.specs.Prelude.{IfSome}
use Rattle.std.proofs.lemmas.Bool.{cases_lt}
use Rattle.std.proofs.lemmas.List.{get_or_read}
use Rattle.step_kinds.specs.declared.plan.Plan.{Plan}
use Rattle.step_kinds.specs.declared.steps.Step.{Step}
use Rattle.explore_model.specs.States.{CanHaveMade}
use Rattle.explore_model.specs.declared.outcome.Landing.{Landing}
use Rattle.explore_search.specs.Machines.{HaveSameKeys, HaveSameSteps}
use Rattle.explore_search.specs.Paths.{IsLandingBy, path, search_script_of}
use Rattle.explore_search.specs.States.{Covers, IsMachineAt, IsState, Reaches, made_to}
use Rattle.explore_search.specs.declared.states.State.{State}

module _ {M : Type 0} (has_made : M → Plan → List Step → Type 0) where
  -- what one machine can have made with a first list, another can that has made the first list
  pub made_alike : (same : HaveSameSteps has_made) (plan : Plan) (one two three : List Step) → CanHaveMade has_made plan one two → CanHaveMade has_made plan two three → CanHaveMade has_made plan one three
  made_alike same plan one two three first second = (first.0, first.1, same plan two three second.0 first.0 second.1 first.2 second.2)

  -- a machine that was made anew at a state, and says whether it is the same as another
  pub same_answer : (same : HaveSameSteps has_made) (plan : Plan) (done : ℕ) (state : State M) (again machine : M) (made : List Step) (answer : Bool) →
      has_made again plan (made_to plan done state) → has_made machine plan made →
      (IsTrue answer → (plan : Plan) (steps : List Step) → has_made again plan steps → has_made machine plan steps) →
      ((plan : Plan) (steps : List Step) → has_made again plan steps → has_made machine plan steps → IsTrue answer) →
      IsTrue answer ↔ Reaches has_made plan done state made
  same_answer same plan done state again machine made answer at has merges apart = (
    λ yes. (machine, merges yes plan (made_to plan done state) at, has),
    λ reaches. apart plan made (same plan (made_to plan done state) made reaches.0 again reaches.1 at reaches.2) has,
  )

  -- of some states none is the machine's, and neither is the next
  pub none_more : (plan : Plan) (done : ℕ) (states : List (State M)) (made : List Step) (i : ℕ) (state : State M) → state ≡ get_or states i state →
      ((k : ℕ) (d : State M) → k < i → Reaches has_made plan done (get_or states k d) made → ⊥) → (Reaches has_made plan done state made → ⊥) → i < length states →
      (k : ℕ) (d : State M) → k < i + 1 → Reaches has_made plan done (get_or states k d) made → ⊥
  none_more plan done states made i state is none not below k d within reaches =
      elim (cases_lt k i) [
        | inl before ↦ none k d before reaches
        | inr after ↦ (let here : k ≡ i = omega arith in
            not (subst (λ (state : State M). Reaches has_made plan done state made) (sym (get_or_read states i state below is d))
            (subst (λ (k : ℕ). Reaches has_made plan done (get_or states k d) made) here reaches)))
      ]

  -- none of them all is
  pub none_of_all : (plan : Plan) (done : ℕ) (states : List (State M)) (made : List Step) (i : ℕ) → length states ≤ i →
      ((k : ℕ) (d : State M) → k < i → Reaches has_made plan done (get_or states k d) made → ⊥) → Covers has_made plan done states made → ⊥
  none_of_all plan done states made i all none some =
      none some.0 some.1 (omega (arith, some.2)) (subst (λ (state : State M). Reaches has_made plan done state made) (sym some.3) some.4)

  -- one of them is
  pub some_is : (plan : Plan) (done : ℕ) (states : List (State M)) (made : List Step) (i : ℕ) (state : State M) → state ≡ get_or states i state → i < length states →
      Reaches has_made plan done state made → Covers has_made plan done states made
  some_is plan done states made i state is below reaches = (i, state, below, sym is, reaches)

module _ {M : Type 0} (has_made : M → Plan → List Step → Type 0) (plan_held : M → Plan) (key_of : M → List ℕ) where
  -- another key, so another state
  pub other_key : (same : HaveSameKeys has_made key_of) (plan : Plan) (done : ℕ) (state : State M) (machine : M) (made : List Step) (key : List ℕ) →
      IsState has_made plan_held key_of plan done state → has_made machine plan made → key ≡ key_of machine → (state.key.items ≡ key → ⊥) →
      Reaches has_made plan done state made → ⊥
  other_key same plan done state machine made key is has key_is differ reaches =
      differ (sym (is.key reaches.0 reaches.1) ∙ same plan made reaches.0 machine reaches.2 has ∙ sym key_is)

  -- a state with this path, key and machine
  pub state_by : (plan : Plan) (done : ℕ) (state : State M) (landings : List Landing) (key : List ℕ) (machine : Option M) →
      state.landings.items ≡ landings → state.key.items ≡ key → state.machine ≡ machine → All (IsLandingBy plan done) landings →
      ((it : M) → has_made it plan (path (search_script_of plan) landings done) → key_of it ≡ key) →
      IfSome machine (IsMachineAt has_made plan_held plan (path (search_script_of plan) landings done)) → IsState has_made plan_held key_of plan done state
  state_by plan done state landings key machine path_is key_is machine_is may has kept =
      record {
        landings = subst (λ (landings : List Landing). All (IsLandingBy plan done) landings) (sym path_is) may;
        key = λ it made. has it (subst (λ (landings : List Landing). has_made it plan (path (search_script_of plan) landings done)) path_is made) ∙ sym key_is;
        kept =
            subst (λ (landings : List Landing). IfSome state.machine (IsMachineAt has_made plan_held plan (path (search_script_of plan) landings done))) (sym path_is)
            (subst (λ (machine : Option M). IfSome machine (IsMachineAt has_made plan_held plan (path (search_script_of plan) landings done))) (sym machine_is) kept);
      }
