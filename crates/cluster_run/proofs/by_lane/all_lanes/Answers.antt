use Rattle.cluster_run.proofs.TrafficByLane.{by_lane-pair}
use Rattle.cluster_run.proofs.by_lane.all_lanes.Goals as goal

pub loop-pair-preserved : goal.loop-pair-preserved
loop-pair-preserved c = by_lane-pair c.loop-pair.pair _ _ _ c.loop-pair.invariant c.in_ok-push_side.ensures c.in_ok-push_side-2.ensures
