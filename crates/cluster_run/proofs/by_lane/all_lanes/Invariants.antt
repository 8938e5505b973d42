use Rattle.std.proofs.Common.{◌≡◌, [], map}
use Rattle.cluster_run.specs.ByLane.{by_lane, lane_frames}
use Rattle.cluster_run.proofs.by_lane.all_lanes.Given as goal

abbrev pub invariant-loop-pair : goal.invariant-loop-pair
invariant-loop-pair l = map lane_frames l.lanes.items ≡ by_lane [] l.pair
