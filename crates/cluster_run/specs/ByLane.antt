-- The frames of a plan's traffic, lane by lane.
use Rattle.std.specs.Prelude.{◌≡◌, ℕ, ◌+◌, ◌*◌, ◌<◌, nat_lt, Bool, List, [], ◌∷◌, ◌++◌, length, map, filter, slice_index_or, slice_set}
use Rattle.std.specs.List.{All}
use Rattle.step_kinds.specs.declared.names.Side.{Side}
use Rattle.step_kinds.specs.declared.names.Side.TheVariants.{A, B}
use Rattle.step_kinds.specs.declared.names.LaneName.{LaneName}
use Rattle.step_kinds.specs.declared.plan.Plan.{Plan}
use Rattle.step_kinds.specs.declared.plan.Traffic.{Traffic}
use Rattle.step_kinds.specs.declared.plan.Traffic.TheVariants.{Send, Break}
use Rattle.step_kinds.specs.Limits.{most_queues}
use Rattle.traffic_plan.specs.Lanes.{frames_on}
use Rattle.cluster_run.specs.Lanes.{lanes_in, entries_on, losses_on}
use Rattle.cluster_run.specs.LaneKeys.{LaneKey}
use Rattle.cluster_run.specs.declared.by_lane.LaneTraffic.{LaneTraffic}

-- a lane and frames on it
pub record LaneFrames : Type 0 where
  pub name : LaneName
  pub frames : List (List ℕ)

abbrev pub lane_frames : LaneTraffic → LaneFrames
lane_frames lane = record { name = lane.name; frames = lane.frames.frames }

-- a lane with its frames of a traffic
abbrev pub lane_frames_of : List Traffic → LaneName → LaneFrames
lane_frames_of traffic lane = record { name = lane; frames = frames_on lane traffic }

-- all lanes of this many pairs, each with its frames
abbrev pub by_lane : List Traffic → ℕ → List LaneFrames
by_lane traffic pairs = map (lane_frames_of traffic) (lanes_in pairs)

-- where a lane stands among all lanes
abbrev pub side_place : Side → ℕ
side_place A = 0
side_place B = most_queues

abbrev pub lane_place_of : LaneName → ℕ
lane_place_of lane = 2 * most_queues * lane.pair + (side_place lane.from + lane.queue)

-- one frame more on a lane
abbrev pub lane_with_frame : LaneFrames → List ℕ → LaneFrames
lane_with_frame lane frame = record { name = lane.name; frames = lane.frames ++ frame ∷ [] }

abbrev pub no_lane : LaneFrames
no_lane = record { name = record { pair = 0; from = A; queue = 0 }; frames = [] }

-- one item more of the traffic: a frame is put on its lane
abbrev pub lanes_with : List LaneFrames → Traffic → List LaneFrames
lanes_with lanes (Send lane frame) = slice_set lanes (lane_place_of lane) (lane_with_frame (slice_index_or lanes (lane_place_of lane) no_lane) frame)
lanes_with lanes (Break pair) = lanes

-- an item is of one of this many lanes
abbrev pub HasLanePlace : ℕ → Traffic → Type 0
HasLanePlace lanes (Send lane frame) = lane_place_of lane < lanes
HasLanePlace lanes (Break pair) = Unit {0}

-- the key of a lane with this number and these frames
abbrev pub key_with : Plan → ℕ → LaneFrames → LaneKey
key_with plan number lane = record { name = lane.name; number = number; entries = entries_on plan lane.name; losses = losses_on plan lane.name; traffic = lane.frames }

-- the keys of lanes that are numbered in a row, from a number on
abbrev pub keys_with : Plan → ℕ → List LaneFrames → List LaneKey
keys_with plan number [] = []
keys_with plan number (lane ∷ lanes) = key_with plan number lane ∷ keys_with plan (number + 1) lanes

-- the lane has a frame
abbrev pub has_frame : LaneFrames → Bool
has_frame lane = nat_lt 0 (length lane.frames)

-- the keys of those lanes that have a frame, numbered from a number on
abbrev pub keys_with_frames : Plan → ℕ → List LaneFrames → List LaneKey
keys_with_frames plan number lanes = keys_with plan number (filter has_frame lanes)

-- each lane has its frames of the plan's traffic
abbrev pub AreOfTraffic : Plan → List LaneTraffic → Type 0
AreOfTraffic plan lanes = All (λ (lane : LaneTraffic). lane.frames.frames ≡ frames_on lane.name plan.traffic) lanes
