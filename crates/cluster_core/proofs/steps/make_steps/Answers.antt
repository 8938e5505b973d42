use Rattle.std.proofs.Common.{◌∙◌, ◌++◌, List, take, ap, sym, subst, arith}
use Rattle.std.specs.List.{All}
use Rattle.std.proofs.lemmas.List.{take_all}
use Rattle.step_kinds.specs.declared.plan.Line.{Line}
use Rattle.step_kinds.specs.declared.plan.Plan.{Plan}
use Rattle.pair_model.specs.Switches.{IsMakeable}
use Rattle.step_list.specs.StepLists.{all_lines, lines_in}
use Rattle.cluster_core.specs.Cluster.{plan_held}
use Rattle.cluster_core.specs.PlanSteps.{HasKept}
use Rattle.cluster_core.proofs.StepsMade.{all_of_one, kept_both, stretches_more}
use Rattle.cluster_core.proofs.steps.make_steps.Goals as goal

pub make_stretch-requires : goal.make_stretch-requires
make_stretch-requires g c =
    let P : Plan → Line → Type 0 = λ kept line. IsMakeable kept line.step in
    let all : All (P (plan_held c.loop-stretch.cluster)) c.args.steps.now = subst (λ (kept : Plan). All (P kept) c.args.steps.now) (sym c.loop-stretch.invariant.plan) c.requires in
    all_of_one (P (plan_held c.loop-stretch.cluster)) lines_in c.stretches-stretch-items.result.now c.loop-stretch.stretch-index c.stretch-item.result (omega arith) c.stretch-item.is
    (subst (λ (lines : List Line). All (P (plan_held c.loop-stretch.cluster)) lines) (sym c.stretches-stretch-items.ensures) all)

pub loop-stretch-preserved : goal.loop-stretch-preserved
loop-stretch-preserved g c = record {
  plan = c.in_ok-make_stretch.ensures.plan ∙ c.loop-stretch.invariant.plan;
  kept = λ plan before replayed.
      let with_answer = g.K.KeepsAnswers.with_answer in
      let stretches = c.stretches-stretch-items.result.now in
      let i = c.loop-stretch.stretch-index in
      let stretch = c.stretch-item.result in
      let so_far = c.loop-stretch.invariant.kept plan before replayed in
      subst (λ (lines : List Line). HasKept with_answer plan before lines c.make_stretch.new.cluster c.args.kept.now c.make_stretch.new.kept)
      (sym (stretches_more stretches i stretch (omega arith) c.stretch-item.is))
      (kept_both with_answer plan before (all_lines (take i stretches)) (lines_in stretch) c.loop-stretch.cluster c.make_stretch.new.cluster c.args.kept.now c.loop-stretch.kept c.make_stretch.new.kept so_far
      (c.in_ok-make_stretch.ensures.kept plan (before ++ all_lines (take i stretches)) so_far.replayed));
}

pub returns-clause-kept : goal.returns-clause-kept
returns-clause-kept g c =
    λ plan before replayed.
    let stretches = c.stretches-stretch-items.result.now in
    subst (λ (lines : List Line). HasKept g.K.KeepsAnswers.with_answer plan before lines c.loop-stretch.cluster c.args.kept.now c.loop-stretch.kept)
    (ap all_lines (take_all c.loop-stretch.stretch-index stretches (omega arith)) ∙ c.stretches-stretch-items.ensures)
    (c.loop-stretch.invariant.kept plan before replayed)
