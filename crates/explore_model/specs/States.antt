-- The states that the schedules of a script come to before a step of it, and how many there are.
use Rattle.std.specs.Prelude.{◌≡◌, ℕ, ◌<◌, List, ◌++◌, length}
use Rattle.std.specs.List.{AllPairs, Any}
use Rattle.step_kinds.specs.declared.plan.Plan.{Plan}
use Rattle.step_kinds.specs.declared.steps.Step.{Step}
use Rattle.explore_model.specs.Schedules.{Runs}
use Rattle.explore_model.specs.declared.outcome.Landing.{Landing}

-- the most states of an exploration that ends
abbrev pub most_states : ℕ
most_states = 1000000

-- a run of the first steps of a script, after which others follow
pub record Passing (plan : Plan) (script : List Step) : Type 0 where
  pub first : List Step
  pub left : List Step
  pub whole : script ≡ first ++ left
  pub more : length first < length script
  pub landings : List Landing
  pub made : List Step
  pub answers : List (List ℕ)
  pub run : Runs plan first landings made answers

module _ {Machine : Type 0} (has_made : Machine → Plan → List Step → Type 0) where
  -- some machine can have made the one list of steps and the other
  abbrev pub CanHaveMade : Plan → List Step → List Step → Type 0
  CanHaveMade plan one other = (machine : Machine) × has_made machine plan one × has_made machine plan other

  -- Two runs lead to one state: as many steps of the script were made and answered alike, and a machine can have made
  -- the steps of both.
  pub record LeadToOne (plan : Plan) (script : List Step) (one other : Passing plan script) : Type 0 where
    pub first : one.first ≡ other.first
    pub answers : one.answers ≡ other.answers
    pub made : CanHaveMade plan one.made other.made

  -- no two of these lead to one state
  abbrev pub AreApart : (plan : Plan) (script : List Step) → List (Passing plan script) → Type 0
  AreApart plan script states = AllPairs (λ one other. LeadToOne plan script one other → ⊥) states

  -- the script's schedules reach this many states
  pub record IsCensus (plan : Plan) (script : List Step) (count : ℕ) : Type 0 where
    pub states : List (Passing plan script)
    pub counted : length states ≡ count
    pub apart : AreApart plan script states
    pub all : (run : Passing plan script) → Any (λ state. LeadToOne plan script state run) states

  -- they reach more than this many
  pub record HasMoreThan (plan : Plan) (script : List Step) (limit : ℕ) : Type 0 where
    pub states : List (Passing plan script)
    pub counted : limit < length states
    pub apart : AreApart plan script states
