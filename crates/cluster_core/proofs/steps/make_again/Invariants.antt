use Rattle.std.proofs.Common.{◌≡◌, List, replicate}
use Rattle.step_kinds.specs.declared.plan.Line.{Line}
use Rattle.step_kinds.specs.declared.plan.Plan.{Plan}
use Rattle.step_list.specs.Compact.{lines_with, step_again}
use Rattle.cluster_core.specs.Cluster.{plan_held}
use Rattle.cluster_core.specs.PlanSteps.{HasKept, HasReplayed}
use Rattle.cluster_core.proofs.steps.make_again.Given as goal

abbrev pub invariant-loop-made : goal.invariant-loop-made
invariant-loop-made g l = record {
  plan : plan_held l.cluster ≡ plan_held l.fn.cluster;
  kept : (plan : Plan) (before : List Line) → HasReplayed plan before l.fn.cluster →
      HasKept g.K.KeepsAnswers.with_answer plan before (lines_with l.line (replicate l.made (step_again l.repeated))) l.cluster l.fn.kept l.kept;
}
