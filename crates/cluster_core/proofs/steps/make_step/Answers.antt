use Rattle.std.proofs.lemmas.Result.{on_ok_weaker}
use Rattle.pair_model.specs.PlanParts.{steps_in}
use Rattle.cluster_core.proofs.StepsMade.{kept_one}
use Rattle.cluster_core.proofs.steps.make_step.Goals as goal

pub returns-clause-kept : goal.returns-clause-kept
returns-clause-kept g c =
    λ plan before replayed.
    on_ok_weaker c.keep.result
    (λ is. kept_one g.K.KeepsAnswers.with_answer plan before c.args.line c.args.step.now c.in_ok-answer.answer c.args.cluster.now c.step.new.self c.args.kept.now c.keep.new.self replayed
    (c.in_ok-answer.ensures.made plan (steps_in before) replayed.made) c.in_ok-answer.ensures.plan (c.in_ok-answer.ensures.answered plan (steps_in before) replayed.made) is)
    c.keep.ensures
