-- The further landings of outcomes are of pairs of the plan.
use Rattle.std.proofs.Common.{ℕ, List}
use Rattle.std.proofs.lemmas.List.Elements.{All-nil, All-push, All-weaker}
use Rattle.std.specs.List.{All}
use Rattle.step_kinds.specs.declared.plan.Plan.{Plan}
use Rattle.step_kinds.specs.declared.steps.Step.{Step}
use Rattle.pair_model.specs.DeclaredPlans.{IsPairOf}
use Rattle.explore_model.specs.Outcomes.{IsOutcome}
use Rattle.explore_model.specs.Schedules.{Runs, begun, goes_on, lands}
use Rattle.explore_model.specs.declared.outcome.Landing.{Landing}
use Rattle.explore_model.specs.declared.outcome.Outcome.{Outcome}
use Rattle.explore_command.specs.Landings.{LandsOnPairs}

-- a landing is of a pair of the plan
abbrev IsOn : Plan → Landing → Type 0
IsOn plan landing = IsPairOf plan landing.pair

-- so are all of a run
on_pairs : (plan : Plan) {script : List Step} {landings : List Landing} {made : List Step} {answers : List (List ℕ)} → Runs plan script landings made answers →
    All (IsOn plan) landings
on_pairs plan begun = All-nil (IsOn plan)
on_pairs plan (lands {landings = before} landing run at is landed) = All-push (IsOn plan) before landing (on_pairs plan run) is.pair
on_pairs plan (goes_on step run) = on_pairs plan run

-- of all outcomes
pub all_on_pairs : (plan : Plan) (script : List Step) (found : List Outcome) → All (IsOutcome plan script) found → All (LandsOnPairs plan) found
all_on_pairs plan script found sound =
    All-weaker (IsOutcome plan script) (LandsOnPairs plan) (λ (outcome : Outcome) (is : IsOutcome plan script outcome). on_pairs plan is.run) found sound
