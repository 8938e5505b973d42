use Rattle.std.proofs.Common.{◌≡◌, List}
use Rattle.std.specs.List.{flat_map, range_with_len}
use Rattle.step_kinds.specs.declared.plan.Line.{Line}
use Rattle.step_kinds.specs.declared.plan.Plan.{Plan}
use Rattle.pair_model.specs.PlanParts.{steps_in}
use Rattle.ledger_model.specs.PlanLog.{lanes_of_pair, sessions_of_lane}
use Rattle.cluster_core.specs.Counts.{filled}
use Rattle.cluster_core.specs.LogClauses.{cluster_log_after}
use Rattle.cluster_core.specs.PlanSteps.{HasReplayed}
use Rattle.cluster_core.proofs.counts.lane_counts.Given as goal

abbrev pub invariant-loop-pair : goal.invariant-loop-pair
invariant-loop-pair l =
    (plan : Plan) (lines : List Line) → HasReplayed plan lines l.cluster →
    l.counts.items ≡ filled (flat_map (sessions_of_lane plan (cluster_log_after plan (steps_in lines))) (flat_map (lanes_of_pair plan) (range_with_len 0 l.pair)))
