-- The states of a search, all after the same number of a script's steps.
use Rattle.std.specs.Prelude.{◌≡◌, ℕ, IfSome, List, Option, [], ◌∷◌, ◌++◌, take}
use Rattle.std.specs.List.{All, AllPairs, Any}
use Rattle.pair_model.specs.PlanParts.{declared_part}
use Rattle.step_kinds.specs.declared.plan.Plan.{Plan}
use Rattle.step_kinds.specs.declared.steps.Step.{Step}
use Rattle.explore_model.specs.Schedules.{Runs}
use Rattle.explore_model.specs.States.{CanHaveMade}
use Rattle.explore_model.specs.declared.outcome.Landing.{Landing}
use Rattle.explore_search.specs.Paths.{IsLandingBy, path, search_script_of}
use Rattle.explore_search.specs.declared.states.State.{State}

-- all that was made on the way to a state
abbrev pub made_to : {M : Type 0} → Plan → ℕ → State M → List Step
made_to plan done state = path (search_script_of plan) state.landings.items done

-- the way to a state is a run, with these answers
abbrev pub HasSearchRun : {M : Type 0} → Plan → ℕ → List (List ℕ) → State M → Type 0
HasSearchRun plan done answers state = Runs plan (take done (search_script_of plan)) state.landings.items (made_to plan done state) answers

module _ {M : Type 0} (has_made : M → Plan → List Step → Type 0) where
  -- some machine can have made these steps and those to the state
  abbrev pub Reaches : Plan → ℕ → State M → List Step → Type 0
  Reaches plan done state made = CanHaveMade has_made plan (made_to plan done state) made

  -- so it is with one of these states
  abbrev pub Covers : Plan → ℕ → List (State M) → List Step → Type 0
  Covers plan done states made = Any (λ state. Reaches plan done state made) states

  -- no two of these states are one
  abbrev pub AreTwo : Plan → ℕ → List (State M) → Type 0
  AreTwo plan done states = AllPairs (λ one other. Reaches plan done one (made_to plan done other) → ⊥) states

module _ {M : Type 0} (has_made : M → Plan → List Step → Type 0) (plan_held : M → Plan) where
  -- a machine has made these steps of a plan, and keeps what the plan declares
  pub record IsMachineAt (plan : Plan) (steps : List Step) (machine : M) : Type 0 where
    pub made : has_made machine plan steps
    pub held : plan_held machine ≡ declared_part plan

  -- a machine that is at hand, if there is one, is at a state
  abbrev pub IsSpareOf : Plan → ℕ → Option M → State M → Type 0
  IsSpareOf plan done spare state = IfSome spare (IsMachineAt plan (made_to plan done state))

module _ {M : Type 0} (has_made : M → Plan → List Step → Type 0) (plan_held : M → Plan) (key_of : M → List ℕ) where
  -- a state after this many steps of the plan: its key is that of each machine there, and so is the machine that it
  -- keeps
  pub record IsState (plan : Plan) (done : ℕ) (state : State M) : Type 0 where
    pub landings : All (IsLandingBy plan done) state.landings.items
    pub key : (machine : M) → has_made machine plan (made_to plan done state) → key_of machine ≡ state.key.items
    pub kept : IfSome state.machine (IsMachineAt has_made plan_held plan (made_to plan done state))

  -- What becomes of states where one with these landings is to be among them.
  pub data Joined (plan : Plan) (done : ℕ) (landings : List Landing) (old : List (State M)) : List (State M) → Type 0 where
    -- it is among them
    found : Covers has_made plan done old (path (search_script_of plan) landings done) → Joined plan done landings old old
    -- it is none of them, and stands after them
    added : (state : State M) → IsState plan done state → state.landings.items ≡ landings →
        (Covers has_made plan done old (path (search_script_of plan) landings done) → ⊥) → Joined plan done landings old (old ++ state ∷ [])

  -- states to which others were added at the end
  pub record HaveGrown (plan : Plan) (done : ℕ) (old new : List (State M)) : Type 0 where
    pub added : List (State M)
    pub is : new ≡ old ++ added
    pub each : All (IsState plan done) old → All (IsState plan done) new
    pub runs : (answers : List (List ℕ)) → All (HasSearchRun plan done answers) old → All (HasSearchRun plan done answers) new
    pub two : AreTwo has_made plan done old → AreTwo has_made plan done new
