use Rattle.std.proofs.Common.{◌≡◌, ◌∙◌, ◌+◌, ℕ, [], ◌∷◌, ◌++◌, List, replicate, sym, ap, subst, arith}
use Rattle.std.proofs.lemmas.Result.{on_ok_weaker}
use Rattle.pair_model.specs.PlanParts.{steps_in}
use Rattle.step_kinds.specs.declared.plan.Line.{Line}
use Rattle.step_kinds.specs.declared.plan.Plan.{Plan}
use Rattle.step_kinds.specs.declared.steps.Step.{Step}
use Rattle.pair_model.specs.Switches.{IsMakeable}
use Rattle.step_list.specs.Compact.{lines_with, step_again}
use Rattle.step_list.proofs.Facade.{repeats_more}
use Rattle.cluster_core.specs.Cluster.{plan_held}
use Rattle.cluster_core.specs.Refusals.{is_plain_step}
use Rattle.cluster_core.specs.PlanSteps.{HasKept}
use Rattle.cluster_core.proofs.PermittedSteps.{again_permitted}
use Rattle.cluster_core.proofs.StepsMade.{kept_both, kept_one}
use Rattle.cluster_core.proofs.RefusedSteps.{kept_rest, repeated_counts}
use Rattle.cluster_core.proofs.steps.make_again.Goals as goal

pub step-requires : goal.step-requires
step-requires g c =
    subst (λ (kept : Plan). IsMakeable kept c.step-step.result) (sym c.loop-made.invariant.plan)
    (subst (IsMakeable (plan_held c.args.cluster.now)) (sym c.step-step.ensures) (again_permitted _ c.args.line c.args.count (step_again c.args.repeated) (omega arith) c.requires))

pub loop-made-preserved : goal.loop-made-preserved
loop-made-preserved g c = record {
  plan = c.in_ok-answer.ensures.plan ∙ c.loop-made.invariant.plan;
  kept = λ plan before replayed.
      let with_answer = g.K.KeepsAnswers.with_answer in
      let step : Step = c.step-step.result in
      let lines : List Line = lines_with c.args.line (replicate c.loop-made.made step) in
      let so_far : HasKept with_answer plan before lines c.loop-made.cluster c.args.kept.now c.loop-made.kept =
      subst (λ (step : Step). HasKept with_answer plan before (lines_with c.args.line (replicate c.loop-made.made step)) c.loop-made.cluster c.args.kept.now c.loop-made.kept) (sym c.step-step.ensures)
      (c.loop-made.invariant.kept plan before replayed) in
      subst (λ (step : Step). HasKept with_answer plan before (lines_with c.args.line (replicate (c.loop-made.made + 1) step)) c.step.new.self c.args.kept.now c.keep.new.self) c.step-step.ensures
      (subst (λ (lines : List Line). HasKept with_answer plan before lines c.step.new.self c.args.kept.now c.keep.new.self)
      (sym (repeats_more c.args.line c.loop-made.made step))
      (kept_both with_answer plan before lines (lines_with c.args.line (step ∷ [])) c.loop-made.cluster c.step.new.self c.args.kept.now c.loop-made.kept c.keep.new.self so_far
      (kept_one with_answer plan (before ++ lines) c.args.line step c.in_ok-answer.answer c.loop-made.cluster c.step.new.self c.loop-made.kept c.keep.new.self so_far.replayed
      (c.in_ok-answer.ensures.made plan (steps_in (before ++ lines)) so_far.replayed.made) c.in_ok-answer.ensures.plan
      (c.in_ok-answer.ensures.answered plan (steps_in (before ++ lines)) so_far.replayed.made) c.in_ok-keep.ensures)));
}

pub returns-then-not-is_made-clause-plan : goal.returns-then-not-is_made-clause-plan
returns-then-not-is_made-clause-plan g c = on_ok_weaker c.keep_times.result (λ _. c.in_ok-answer.ensures.plan ∙ c.loop-made.invariant.plan) c.keep_times.ensures

pub returns-then-not-is_made-clause-kept : goal.returns-then-not-is_made-clause-kept
returns-then-not-is_made-clause-kept g c =
    λ plan before replayed.
    let with_answer = g.K.KeepsAnswers.with_answer in
    let step : Step = c.step-step.result in
    let lines : List Line = lines_with c.args.line (replicate c.loop-made.made step) in
    let so_far : HasKept with_answer plan before lines c.loop-made.cluster c.args.kept.now c.loop-made.kept =
    subst (λ (step : Step). HasKept with_answer plan before (lines_with c.args.line (replicate c.loop-made.made step)) c.loop-made.cluster c.args.kept.now c.loop-made.kept) (sym c.step-step.ensures)
    (c.loop-made.invariant.kept plan before replayed) in
    on_ok_weaker c.keep_times.result
    (λ is.
    subst (λ (step : Step). HasKept with_answer plan before (lines_with c.args.line (replicate c.args.count step)) c.step.new.self c.args.kept.now c.keep_times.new.self) c.step-step.ensures
    (kept_rest c.refused_again.ensures with_answer plan c.args.line step c.in_ok-answer.answer (sym c.is_made.ensures ∙ c.if-not-is_made.true)
    (ap is_plain_step c.step-step.ensures ∙ repeated_counts c.args.repeated)
    before c.loop-made.made c.args.count (omega arith) c.loop-made.cluster c.step.new.self c.args.kept.now c.loop-made.kept c.keep_times.new.self so_far
    (c.in_ok-answer.ensures.made plan (steps_in (before ++ lines)) so_far.replayed.made) c.in_ok-answer.ensures.plan
    (c.in_ok-answer.ensures.answered plan (steps_in (before ++ lines)) so_far.replayed.made) is))
    c.keep_times.ensures

pub returns-clause-plan : goal.returns-clause-plan
returns-clause-plan g c = c.loop-made.invariant.plan

pub returns-clause-kept : goal.returns-clause-kept
returns-clause-kept g c =
    λ plan before replayed.
    let all : c.loop-made.made ≡ c.args.count = omega arith in
    subst (λ (count : ℕ). HasKept g.K.KeepsAnswers.with_answer plan before (lines_with c.args.line (replicate count (step_again c.args.repeated))) c.loop-made.cluster c.args.kept.now c.loop-made.kept) all
    (c.loop-made.invariant.kept plan before replayed)
