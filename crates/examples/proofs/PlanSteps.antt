-- The steps of a plan, on the cluster of its pairs, devices and switches.
use Rattle.std.proofs.Common.{◌≡◌, ◌∙◌, ℕ, ◌<◌, List, [], length, slice_index_or, ap, sym, subst, arith}
use Rattle.pair_model.specs.PlanParts.{declared_part}
use Rattle.step_kinds.specs.declared.plan.Line.{Line}
use Rattle.step_kinds.specs.declared.plan.Plan.{Plan}
use Rattle.pair_model.specs.Switches.{IsMakeable}
use Rattle.pair_model.specs.TrafficPlans.{IsWhole}
use Rattle.pair_model.proofs.Facade.{makeable_by_other}

-- a cluster that keeps a plan's pairs, devices and switches may make each of the plan's steps
pub step_makeable : (plan kept : Plan) → IsWhole plan → kept ≡ declared_part plan → (lines : List Line) (i : ℕ) (line : Line) → lines ≡ plan.steps → i < length lines → line ≡ slice_index_or lines i line → IsMakeable kept line.step
step_makeable plan kept whole same lines i line lines_are below line_is =
    let there : slice_index_or lines i line ≡ slice_index_or plan.steps i line = ap (λ (lines : List Line). slice_index_or lines i line) lines_are in
    let all = ap length lines_are in
    let may : IsMakeable plan line.step = subst (λ (line : Line). IsMakeable plan line.step) (sym (line_is ∙ there)) (whole.steps i line (omega arith)) in
    subst (λ (kept : Plan). IsMakeable kept line.step) (sym same) (makeable_by_other plan [] [] line.step may)
