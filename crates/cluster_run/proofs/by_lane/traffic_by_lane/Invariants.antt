use Rattle.std.proofs.Common.{◌≡◌, length, map, take}
use Rattle.cluster_run.specs.ByLane.{by_lane, lane_frames}
use Rattle.cluster_run.proofs.by_lane.traffic_by_lane.Given as goal

abbrev pub invariant-loop-item : goal.invariant-loop-item
invariant-loop-item l = map lane_frames l.lanes.items ≡ by_lane (take l.item-index l.item-items) (length l.plan.pairs)
