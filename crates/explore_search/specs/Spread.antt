-- States that are closed under landings.
use Rattle.std.specs.Prelude.{◌≡◌, ℕ, ◌⊎◌, true, List, [], ◌∷◌, ◌++◌}
use Rattle.std.specs.List.{All, Contains}
use Rattle.step_kinds.specs.declared.names.Side.{Side}
use Rattle.step_kinds.specs.declared.plan.Plan.{Plan}
use Rattle.step_kinds.specs.declared.steps.Answer.TheVariants.{Nothing}
use Rattle.step_kinds.specs.declared.steps.Step.{Step}
use Rattle.ledger_model.specs.Memory.{memory_of}
use Rattle.ledger_model.specs.NetworkLog.{answer_after}
use Rattle.explore_model.specs.Schedules.{IsLanding, is_landed, landing_step}
use Rattle.explore_model.specs.declared.outcome.Landing.{Landing}
use Rattle.explore_search.specs.States.{Covers, Reaches}
use Rattle.explore_search.specs.declared.states.State.{State}

-- a landing that is made after this many steps
pub record IsNext (plan : Plan) (done : ℕ) (landing : Landing) : Type 0 where
  pub may : IsLanding plan landing
  pub at : landing.at ≡ done

-- a landing of a side of a pair
abbrev pub IsOfSide : ℕ → Side → Landing → Type 0
IsOfSide pair side landing = (landing.pair ≡ pair) × (landing.side ≡ side)

module _ {M : Type 0} (has_made : M → Plan → List Step → Type 0) where
  -- Whatever led to a state, after it a landing that is answered `landed` leads to one of these states.
  abbrev pub Lands : Plan → ℕ → List (State M) → State M → Landing → Type 0
  Lands plan done states state landing =
      (made : List Step) → Reaches has_made plan done state made → is_landed (answer_after plan (memory_of plan) made (landing_step landing)) ≡ true →
      Covers has_made plan done states (made ++ landing_step landing ∷ [])

  -- a landing at which nothing lands, whatever led to a state
  abbrev pub IsIdle : Plan → ℕ → State M → Landing → Type 0
  IsIdle plan done state landing = (made : List Step) → Reaches has_made plan done state made → answer_after plan (memory_of plan) made (landing_step landing) ≡ Nothing

  -- among these landings are all that may be answered `landed` after a state
  pub record AreTried (plan : Plan) (done : ℕ) (state : State M) (landings : List Landing) : Type 0 where
    pub each : All (IsNext plan done) landings
    pub all : (landing : Landing) → IsNext plan done landing → Contains landings landing ⊎ IsIdle plan done state landing

  -- Landings were added after others: all of some kind at which something can land, whatever the machine has made.
  pub record AreAdded (plan : Plan) (done : ℕ) (machine : M) (kind : Landing → Type 0) (old new : List Landing) : Type 0 where
    pub each : All (IsNext plan done) old → All (IsNext plan done) new
    pub kept : (landing : Landing) → Contains old landing → Contains new landing
    pub all : (landing : Landing) → IsNext plan done landing → kind landing →
        Contains new landing ⊎ ((made : List Step) → has_made machine plan made → answer_after plan (memory_of plan) made (landing_step landing) ≡ Nothing)

  -- after this state all landings lead to these states
  abbrev pub IsSpread : Plan → ℕ → List (State M) → State M → Type 0
  IsSpread plan done states state = (landing : Landing) → IsNext plan done landing → Lands plan done states state landing

  -- the states are closed under landings
  abbrev pub AreClosed : Plan → ℕ → List (State M) → Type 0
  AreClosed plan done states = All (IsSpread plan done states) states
