use Rattle.std.proofs.Common.{◌≡◌, map}
use Rattle.cluster_run.specs.ByLane.{keys_with_frames, lane_frames}
use Rattle.cluster_run.proofs.task_list.waiting_lanes.Given as goal

abbrev pub invariant-loop-lane : goal.invariant-loop-lane
invariant-loop-lane l = l.tasks.items ≡ keys_with_frames l.plan 0 (map lane_frames l.yielded)
