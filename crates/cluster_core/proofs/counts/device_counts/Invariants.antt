use Rattle.std.proofs.Common.{◌≡◌, List, map, take}
use Rattle.step_kinds.specs.declared.plan.Line.{Line}
use Rattle.step_kinds.specs.declared.plan.Plan.{Plan}
use Rattle.pair_model.specs.PlanParts.{steps_in}
use Rattle.ledger_model.specs.Log.{counters_in, lane_of_device}
use Rattle.cluster_core.specs.LogClauses.{cluster_log_after}
use Rattle.cluster_core.specs.PlanSteps.{HasReplayed}
use Rattle.cluster_core.proofs.counts.device_counts.Given as goal

abbrev pub invariant-loop-dev : goal.invariant-loop-dev
invariant-loop-dev l =
    (plan : Plan) (lines : List Line) → HasReplayed plan lines l.cluster →
    l.counts.items ≡ map (λ dev. counters_in plan (cluster_log_after plan (steps_in lines)) (lane_of_device dev)) (take l.dev plan.devs)
