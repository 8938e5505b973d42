-- The lanes that a plan's traffic uses, and what a run needs of the plan.
use Rattle.std.specs.Prelude.{ℕ, ◌*◌, ◌<◌, ◌≤◌, Bool, List, ◌++◌, length, map, filter, sum, count_by, nat_lt}
use Rattle.std.specs.List.{All, flat_map, range_with_len}
use Rattle.step_kinds.specs.Limits.{most_pairs, most_queues, most_traffic_frames, most_traffic_bytes, most_breaks}
use Rattle.step_kinds.specs.declared.names.Side.TheVariants.{A, B}
use Rattle.step_kinds.specs.declared.names.LaneName.{LaneName}
use Rattle.step_kinds.specs.declared.plan.Plan.{Plan}
use Rattle.step_kinds.specs.declared.plan.Traffic.{Traffic}
use Rattle.pair_model.specs.DeclaredPlans.{IsPair}
use Rattle.pair_model.specs.Plans.{pair_plan}
use Rattle.pair_model.specs.Sizes.{sizes_of}
use Rattle.pair_model.specs.TrafficPlans.{frames_in, traffic_bytes_in, is_break_of, IsTraffic, IsWhole}
use Rattle.traffic_plan.specs.Lanes.{frames_on}

-- the pairs and the traffic are as a script can declare them, and the traffic keeps its limits
pub record CanRun (plan : Plan) : Type 0 where
  pub few_pairs : length plan.pairs ≤ most_pairs
  pub pairs : (k : ℕ) → k < length plan.pairs → IsPair (pair_plan plan k)
  pub traffic : All (IsTraffic plan) plan.traffic
  pub few_frames : sum (map frames_in plan.traffic) ≤ most_traffic_frames
  pub few_bytes : sum (map traffic_bytes_in plan.traffic) ≤ most_traffic_bytes
  pub few_breaks : (pair : ℕ) → count_by (is_break_of pair) plan.traffic ≤ most_breaks

-- the lanes with traffic, which are numbered from 0: a plan has fewer
abbrev pub most_lanes : ℕ
most_lanes = 65535

-- the workers of a run, which are numbered from 0, four for each lane: it has fewer
abbrev pub most_workers : ℕ
most_workers = 4 * most_lanes

-- the lanes of a pair: by queue those from side A, then those from side B
abbrev pub lanes_of : ℕ → List LaneName
lanes_of pair =
    map (λ queue. record { pair = pair; from = A; queue = queue }) (range_with_len 0 most_queues)
    ++ map (λ queue. record { pair = pair; from = B; queue = queue }) (range_with_len 0 most_queues)

-- the lanes of this many pairs, pair by pair
abbrev pub lanes_in : ℕ → List LaneName
lanes_in pairs = flat_map lanes_of (range_with_len 0 pairs)

abbrev pub has_traffic : List Traffic → LaneName → Bool
has_traffic traffic lane = nat_lt 0 (length (frames_on lane traffic))

-- the lanes with traffic, by pair, then side A before side B, then by queue
abbrev pub traffic_lanes : Plan → List LaneName
traffic_lanes plan = filter (has_traffic plan.traffic) (lanes_in (length plan.pairs))

-- how many entries the ring of a lane has, which lies in a window that its sender sends through
abbrev pub entries_on : Plan → LaneName → ℕ
entries_on plan lane = (sizes_of (pair_plan plan lane.pair) lane.from lane.queue).entries

-- how many losses of its pair's link a lane sees
abbrev pub losses_on : Plan → LaneName → ℕ
losses_on plan lane = count_by (is_break_of lane.pair) plan.traffic

-- a plan that a script declares can be run
abbrev pub EachWholePlanCanRun : Type 0
EachWholePlanCanRun = (plan : Plan) → IsWhole plan → CanRun plan
