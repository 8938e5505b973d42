-- The frames of a plan's traffic on one lane.
use Rattle.std.specs.Prelude.{ℕ, Option, Some, None, List, ◌++◌, if◌then◌else◌}
use Rattle.std.specs.List.{filter_map}
use Rattle.step_kinds.specs.Sides.{same_lane}
use Rattle.step_kinds.specs.FrameLists.{Frames}
use Rattle.step_kinds.specs.declared.names.LaneName.{LaneName}
use Rattle.step_kinds.specs.declared.plan.Traffic.{Traffic}
use Rattle.step_kinds.specs.declared.plan.Traffic.TheVariants.{Send}

-- the frame of an item that is sent on the lane
abbrev pub frame_on : LaneName → Traffic → Option (List ℕ)
frame_on lane (Send other frame) = if same_lane other lane then Some frame else None
frame_on lane item = None

-- the frames on a lane, in order
abbrev pub frames_on : LaneName → List Traffic → List (List ℕ)
frames_on lane traffic = filter_map (frame_on lane) traffic

-- a list with more frames, and no more room promised
abbrev pub with_frames : Frames → List (List ℕ) → Frames
with_frames list more = record { frames = list.frames ++ more; spare = list.spare }
