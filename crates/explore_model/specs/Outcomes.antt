-- When a list of outcomes is whole.
use Rattle.std.specs.Prelude.{◌≡◌, ℕ, ◌<◌, List, length}
use Rattle.std.specs.Cmp.Lexicographic.{slice_cmp}
use Rattle.std.specs.List.{All, AllPairs, Any}
use Rattle.std.specs.Ordering.{nat_cmp}
use Rattle.std.specs.declared.cmp.Ordering.{Ordering}
use Rattle.std.specs.declared.cmp.Ordering.TheVariants.{Less}
use Rattle.step_kinds.specs.declared.plan.Plan.{Plan}
use Rattle.step_kinds.specs.declared.steps.Step.{Step}
use Rattle.explore_model.specs.Schedules.{Runs}
use Rattle.explore_model.specs.declared.outcome.Landing.{Landing}
use Rattle.explore_model.specs.declared.outcome.Outcome.{Outcome}

-- The order of answers: the first step on which two lists differ decides, by the bytes of its texts.
abbrev pub answers_cmp : List (List ℕ) → List (List ℕ) → Ordering
answers_cmp one other = slice_cmp (slice_cmp nat_cmp) one other

-- these are the answers of a schedule of the script with these further landings, the last of which is made before some
-- step
pub record IsOutcome (plan : Plan) (script : List Step) (outcome : Outcome) : Type 0 where
  pub made : List Step
  pub run : Runs plan script outcome.landings made outcome.answers
  pub before : All (λ landing. landing.at < length script) outcome.landings

-- these are all outcomes of the script's schedules
pub record IsExplored (plan : Plan) (script : List Step) (found : List Outcome) : Type 0 where
  -- each is one of a schedule
  pub sound : All (IsOutcome plan script) found
  -- the answers of each schedule are those of one of them
  pub complete : (landings : List Landing) (made : List Step) (answers : List (List ℕ)) → Runs plan script landings made answers →
      Any (λ outcome. outcome.answers ≡ answers) found
  -- they stand in rising order, so each stands once
  pub rising : AllPairs (λ one other. answers_cmp one.answers other.answers ≡ Less) found
