use Rattle.std.proofs.Common.{◌≡◌}
use Rattle.pair_model.specs.PlanParts.{declared_part}
use Rattle.cluster_core.specs.Cluster.{plan_held}
use Rattle.examples.proofs.cluster_steps.make_steps.Given as goal

abbrev pub invariant-loop-line : goal.invariant-loop-line
invariant-loop-line l = plan_held l.cluster ≡ declared_part l.plan
