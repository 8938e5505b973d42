use Rattle.std.proofs.Common.{◌≡◌, take}
use Rattle.step_kinds.specs.FrameLists.{no_frames}
use Rattle.traffic_plan.specs.Lanes.{frames_on, with_frames}
use Rattle.traffic_plan.proofs.lanes.lane_traffic.Given as goal

abbrev pub invariant-loop-item : goal.invariant-loop-item
invariant-loop-item l = l.list ≡ with_frames no_frames (frames_on l.lane (take l.item-index l.item-items))
