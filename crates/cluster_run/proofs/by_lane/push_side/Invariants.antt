use Rattle.std.proofs.Common.{◌≡◌, [], ◌++◌, map}
use Rattle.std.specs.List.{range_with_len}
use Rattle.cluster_run.specs.ByLane.{lane_frames_of, lane_frames}
use Rattle.cluster_run.proofs.by_lane.push_side.Given as goal

abbrev pub invariant-loop-queue : goal.invariant-loop-queue
invariant-loop-queue l =
    map lane_frames l.lanes.items ≡ map lane_frames l.fn.lanes.items ++ map (λ queue. lane_frames_of [] (record { pair = l.pair; from = l.from; queue = queue })) (range_with_len 0 l.queue)
