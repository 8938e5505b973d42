-- The steps that a plan permits are ordinary on an ordinary pair.
use Rattle.std.proofs.Common.{◌≡◌, ℕ, false, List, [], ◌∷◌, sym, ap, ◌∙◌, inl, inr}
use Rattle.std.specs.List.{AllByRecursion}
use Rattle.std.proofs.lemmas.Bool.{both_ways}
use Rattle.step_kinds.specs.declared.plan.Plan.{Plan}
use Rattle.step_kinds.specs.declared.steps.Step.{Step}
use Rattle.step_kinds.specs.declared.steps.Step.TheVariants.{Spad, Poke}
use Rattle.pair_model.specs.DeclaredPlans.{IsPermitted}
use Rattle.pair_model.specs.Plans.{pair_plan}
use Rattle.ledger_laws.specs.Laws.{IsOrdinaryOn}

permitted_is_ordinary : (plan : Plan) (k : ℕ) → (pair_plan plan k).raw ≡ false → (step : Step) → IsPermitted plan step → IsOrdinaryOn k step
permitted_is_ordinary plan k no_raw (Spad pair side i value) may on = elim may.1.free [
  | inl own ↦ own
  | inr raw ↦ absurd (both_ways (pair_plan plan k).raw no_raw (ap (λ j. (pair_plan plan j).raw) (sym on) ∙ raw))
]
permitted_is_ordinary plan k no_raw (Poke pair side window offset bytes) may on = both_ways (pair_plan plan k).raw no_raw (ap (λ j. (pair_plan plan j).raw) (sym on) ∙ may.1.raw)
permitted_is_ordinary plan k no_raw step may on = tt

-- On a pair that isn't raw, all steps that the plan permits are ordinary ones.
pub permitted_are_ordinary : (plan : Plan) (k : ℕ) → (pair_plan plan k).raw ≡ false → (steps : List Step) → AllByRecursion (IsPermitted plan) steps → AllByRecursion (IsOrdinaryOn k) steps
permitted_are_ordinary plan k no_raw [] may = tt
permitted_are_ordinary plan k no_raw (step ∷ steps) may = (permitted_is_ordinary plan k no_raw step may.0, permitted_are_ordinary plan k no_raw steps may.1)
