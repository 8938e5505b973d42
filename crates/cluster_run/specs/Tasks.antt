-- What a lane's traffic has to be, so that the lane can be run.
use Rattle.std.specs.Prelude.{◌≡◌, ℕ, ◌≤◌, ◌<◌, List, length, map, count_by}
use Rattle.std.specs.List.{range_with_len}
use Rattle.step_kinds.specs.declared.plan.Plan.{Plan}
use Rattle.pair_model.specs.TrafficPlans.{IsTrafficLane, is_break_of}
use Rattle.step_kinds.specs.Limits.{most_breaks, most_traffic_frames, most_traffic_entries}
use Rattle.lane_workers.specs.Passes.{HaveBytes}
use Rattle.cluster_run.specs.LaneKeys.{LaneKey}
use Rattle.cluster_run.specs.declared.by_lane.LaneTraffic.{LaneTraffic}
use Rattle.cluster_run.specs.declared.tasks.TaskParts.{TaskParts}
use Rattle.cluster_run.specs.Lanes.{most_lanes}

-- the losses of each pair's link, by pair
abbrev pub losses_by_pair : Plan → List ℕ
losses_by_pair plan = map (λ pair. count_by (is_break_of pair) plan.traffic) (range_with_len 0 (length plan.pairs))

-- the lane may have traffic; each frame has a byte, and there are so few that they can be numbered
pub record CanBeRun (plan : Plan) (lane : LaneTraffic) : Type 0 where
  pub traffic : IsTrafficLane plan lane.name
  pub bytes : HaveBytes lane.frames.frames
  pub few : length lane.frames.frames ≤ most_traffic_frames

-- these are the parts of a lane that waits, and what is true of them
pub record AreParts (key : LaneKey) (parts : TaskParts) : Type 0 where
  pub name : parts.name ≡ key.name
  pub numbered : parts.number ≡ key.number
  pub entries : parts.entries ≡ key.entries
  pub losses : parts.losses ≡ key.losses
  pub traffic : parts.frames.frames ≡ key.traffic
  pub number : parts.number < most_lanes
  pub ring : (2 ≤ parts.entries) × (parts.entries ≤ most_traffic_entries)
  pub bytes : HaveBytes parts.frames.frames
  pub few : length parts.frames.frames ≤ most_traffic_frames
  pub breaks : parts.losses ≤ most_breaks
