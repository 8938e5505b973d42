-- The layers of a search: the states after one number of a script's steps, in groups by their answers, and how a step
-- leads from one layer to the next.
use Rattle.std.specs.Prelude.{◌≡◌, ℕ, ◌+◌, ◌<◌, ◌≤◌, List, [], ◌∷◌, ◌++◌, MatchResult, Result, length, slice_index_or, take}
use Rattle.std.specs.Cmp.Lexicographic.{slice_cmp}
use Rattle.std.specs.List.{All, AllPairs, Any}
use Rattle.std.specs.Ordering.{nat_cmp}
use Rattle.std.specs.declared.cmp.Ordering.TheVariants.{Less, Greater}
use Rattle.step_kinds.specs.declared.plan.Plan.{Plan}
use Rattle.step_kinds.specs.declared.steps.Step.{Step}
use Rattle.step_kinds.specs.declared.steps.Step.TheVariants.{Train}
use Rattle.explore_model.specs.Outcomes.{answers_cmp}
use Rattle.explore_model.specs.Schedules.{Runs, text_after}
use Rattle.explore_model.specs.declared.outcome.Landing.{Landing}
use Rattle.explore_search.specs.Paths.{path, search_script_of}
use Rattle.explore_search.specs.States.{AreTwo, Covers, HasSearchRun, IsState, Reaches}
use Rattle.explore_search.specs.declared.layers.Branch.{Branch}
use Rattle.explore_search.specs.declared.layers.Group.{Group}
use Rattle.explore_search.specs.declared.states.State.{State}

-- the step of a plan's script of this number
abbrev pub step_at : Plan → ℕ → Step
step_at plan k = slice_index_or (search_script_of plan) k (Train 0)

-- the first of some states was reached by landings that were made before this number of steps
pub record BeginsBefore {M : Type 0} (done : ℕ) (states : List (State M)) : Type 0 where
  pub first : State M
  pub rest : List (State M)
  pub is : states ≡ first ∷ rest
  pub before : All (λ landing. landing.at < done) first.landings.items

-- a group of a branch, after these answers
abbrev pub with_answers : {M : Type 0} → List (List ℕ) → Branch M → Group M
with_answers answers branch = record { answers = answers ++ branch.text ∷ []; states = branch.states }

-- branches in the order of their texts
abbrev pub AreOrdered : {M : Type 0} → List (Branch M) → Type 0
AreOrdered branches = AllPairs (λ one other. slice_cmp nat_cmp one.text other.text ≡ Less) branches

-- where a text stands among branches in their order, or where it would be put in
abbrev pub IsSearchPlace : {M : Type 0} → List (Branch M) → List ℕ → Result ℕ ℕ → Type 0
IsSearchPlace branches text found =
    MatchResult found (λ place. (place < length branches) × ((d : Branch _) → (slice_index_or branches place d).text ≡ text))
    (λ place. (place ≤ length branches) × ((k : ℕ) (d : Branch _) → k < place → slice_cmp nat_cmp (slice_index_or branches k d).text text ≡ Less)
    × ((d : Branch _) → place < length branches → slice_cmp nat_cmp (slice_index_or branches place d).text text ≡ Greater))

module _ {M : Type 0} (has_made : M → Plan → List Step → Type 0) (plan_held : M → Plan) (key_of : M → List ℕ) (plan : Plan) (done : ℕ) where
  -- the states of a group, whatever its answers are
  abbrev pub AreKept : List (State M) → Type 0
  AreKept states = All (IsState has_made plan_held key_of plan done) states

  -- the states of a group with these answers
  pub record AreStates (answers : List (List ℕ)) (states : List (State M)) : Type 0 where
    pub runs : All (HasSearchRun plan done answers) states
    pub two : AreTwo has_made plan done states
    pub begins : BeginsBefore done states

  -- a branch with this text has a state to which a machine led that has made these steps
  abbrev pub BranchCovers : List (Branch M) → List ℕ → List Step → Type 0
  BranchCovers branches text made = Any (λ branch. (branch.text ≡ text) × Covers has_made plan done branch.states made) branches

  -- each branch has its states, after these answers
  abbrev pub AreBranches : List (List ℕ) → List (Branch M) → Type 0
  AreBranches answers branches = All (λ branch. AreStates (answers ++ branch.text ∷ []) branch.states) branches

  -- a state with these landings was put into the branch of a text
  pub record HasPlaced (text : List ℕ) (landings : List Landing) (old new : List (Branch M)) : Type 0 where
    pub kept : All (λ branch. AreKept branch.states) new
    pub each : (answers : List (List ℕ)) → Runs plan (take done (search_script_of plan)) landings (path (search_script_of plan) landings done) (answers ++ text ∷ []) →
        All (λ landing. landing.at < done) landings → AreBranches answers old → AreBranches answers new
    pub ordered : AreOrdered old → AreOrdered new
    pub stays : (text : List ℕ) (made : List Step) → BranchCovers old text made → BranchCovers new text made
    pub taken : (machine : M) (made : List Step) → has_made machine plan (path (search_script_of plan) landings done) → has_made machine plan made → BranchCovers new text made

module _ {M : Type 0} (has_made : M → Plan → List Step → Type 0) (plan_held : M → Plan) (key_of : M → List ℕ) (plan : Plan) (done : ℕ) where
  -- what a state leads to by the next step was put into its branch
  pub record HasStepped (state : State M) (old new : List (Branch M)) : Type 0 where
    pub kept : All (λ branch. AreKept has_made plan_held key_of plan (done + 1) branch.states) new
    pub each : (answers : List (List ℕ)) → HasSearchRun plan done answers state → AreBranches has_made plan_held key_of plan (done + 1) answers old →
        AreBranches has_made plan_held key_of plan (done + 1) answers new
    pub ordered : AreOrdered old → AreOrdered new
    pub stays : (text : List ℕ) (made : List Step) → BranchCovers has_made plan_held key_of plan (done + 1) old text made →
        BranchCovers has_made plan_held key_of plan (done + 1) new text made
    pub taken : (made : List Step) → Reaches has_made plan done state made →
        BranchCovers has_made plan_held key_of plan (done + 1) new (text_after plan made (step_at plan done)) (made ++ step_at plan done ∷ [])

  -- these are the branches to which states lead by the next step
  pub record HaveBranched (states : List (State M)) (branches : List (Branch M)) : Type 0 where
    pub kept : All (λ branch. AreKept has_made plan_held key_of plan (done + 1) branch.states) branches
    pub each : (answers : List (List ℕ)) → All (HasSearchRun plan done answers) states → AreBranches has_made plan_held key_of plan (done + 1) answers branches
    pub ordered : AreOrdered branches
    pub taken : (made : List Step) → Covers has_made plan done states made →
        BranchCovers has_made plan_held key_of plan (done + 1) branches (text_after plan made (step_at plan done)) (made ++ step_at plan done ∷ [])

  -- a group after these answers has a state to which a machine led that has made these steps
  abbrev pub LayerCovers : List (Group M) → List (List ℕ) → List Step → Type 0
  LayerCovers layer answers made = Any (λ group. (group.answers ≡ answers) × Covers has_made plan done group.states made) layer

  -- a layer whose groups have their states, in the order of their answers
  pub record IsLayer (layer : List (Group M)) : Type 0 where
    pub groups : All (λ group. AreStates has_made plan_held key_of plan done group.answers group.states) layer
    pub ordered : AllPairs (λ one other. answers_cmp one.answers other.answers ≡ Less) layer

  -- the groups to which the next step leads from one
  pub record HasGroups (group : Group M) (groups : List (Group M)) : Type 0 where
    pub kept : All (λ next. AreKept has_made plan_held key_of plan (done + 1) next.states) groups
    pub each : AreStates has_made plan_held key_of plan done group.answers group.states →
        All (λ next. AreStates has_made plan_held key_of plan (done + 1) next.answers next.states) groups
    pub ordered : AllPairs (λ one other. answers_cmp one.answers other.answers ≡ Less) groups
    pub named : All (λ next. (text : List ℕ) × (next.answers ≡ group.answers ++ text ∷ [])) groups

module _ {M : Type 0} (has_made : M → Plan → List Step → Type 0) (plan_held : M → Plan) (key_of : M → List ℕ) (plan : Plan) (done : ℕ) where
  -- and what they cover
  abbrev pub GroupsCover : Group M → List (Group M) → Type 0
  GroupsCover group groups =
      (made : List Step) → Covers has_made plan done group.states made →
      LayerCovers has_made plan_held key_of plan (done + 1) groups (group.answers ++ text_after plan made (step_at plan done) ∷ []) (made ++ step_at plan done ∷ [])

  -- the layer to which the next step leads from one
  pub record HasNext (layer next : List (Group M)) : Type 0 where
    pub kept : All (λ group. AreKept has_made plan_held key_of plan (done + 1) group.states) next
    pub ordered : IsLayer has_made plan_held key_of plan done layer → IsLayer has_made plan_held key_of plan (done + 1) next
    pub covers : (answers : List (List ℕ)) (made : List Step) → LayerCovers has_made plan_held key_of plan done layer answers made →
        LayerCovers has_made plan_held key_of plan (done + 1) next (answers ++ text_after plan made (step_at plan done) ∷ []) (made ++ step_at plan done ∷ [])
