use Rattle.std.proofs.Common.{◌≡◌, List, take}
use Rattle.step_kinds.specs.declared.plan.Line.{Line}
use Rattle.step_kinds.specs.declared.plan.Plan.{Plan}
use Rattle.step_list.specs.StepLists.{all_lines}
use Rattle.cluster_core.specs.Cluster.{plan_held}
use Rattle.cluster_core.specs.PlanSteps.{HasKept, HasReplayed}
use Rattle.cluster_core.proofs.steps.make_steps.Given as goal

abbrev pub invariant-loop-stretch : goal.invariant-loop-stretch
invariant-loop-stretch g l = record {
  plan : plan_held l.cluster ≡ plan_held l.fn.cluster;
  kept : (plan : Plan) (before : List Line) → HasReplayed plan before l.fn.cluster →
      HasKept g.K.KeepsAnswers.with_answer plan before (all_lines (take l.stretch-index l.stretch-items)) l.cluster l.fn.kept l.kept;
}
