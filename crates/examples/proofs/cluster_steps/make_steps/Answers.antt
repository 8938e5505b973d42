use Rattle.cluster_core.specs.Cluster.{plan_held}
use Rattle.examples.proofs.PlanSteps.{step_makeable}
use Rattle.examples.proofs.cluster_steps.make_steps.Goals as goal

pub make_step-requires : goal.make_step-requires
make_step-requires c =
    step_makeable c.args.plan.now (plan_held c.loop-line.cluster) c.requires.whole c.loop-line.invariant c.as_slice-line-items.result.now c.loop-line.line-index c.line-item.result c.as_slice-line-items.ensures c.loop-line-test.true c.line-item.is
