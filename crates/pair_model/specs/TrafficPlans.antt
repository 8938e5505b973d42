-- The traffic that a script can declare, and what holds of a whole plan.
use Rattle.std.specs.Prelude.{◌≡◌, ℕ, ◌<◌, ◌≤◌, ◌==◌, Bool, false, length, map, sum, count_by}
use Rattle.std.specs.List.{All}
use Rattle.step_kinds.specs.Limits.{most_steps, most_traffic_frames, most_traffic_bytes, most_breaks, most_traffic_entries}
use Rattle.step_kinds.specs.declared.names.LaneName.{LaneName}
use Rattle.step_kinds.specs.declared.plan.PairPlan.{PairPlan}
use Rattle.step_kinds.specs.declared.plan.Plan.{Plan}
use Rattle.step_kinds.specs.declared.plan.Traffic.{Traffic}
use Rattle.step_kinds.specs.declared.plan.Traffic.TheVariants.{Send, Break}
use Rattle.pair_model.specs.DeclaredPlans.{Agree, IsDeclared, IsPairOf}
use Rattle.pair_model.specs.Plans.{pair_plan}
use Rattle.pair_model.specs.Sizes.{sizes_of}
use Rattle.pair_model.specs.Switches.{AreSwitches, IsMakeable}

-- the frames of the traffic, their bytes, and the link losses of a pair
abbrev pub frames_in : Traffic → ℕ
frames_in (Send lane frame) = 1
frames_in item = 0

abbrev pub traffic_bytes_in : Traffic → ℕ
traffic_bytes_in (Send lane frame) = length frame
traffic_bytes_in item = 0

abbrev pub is_break_of : ℕ → Traffic → Bool
is_break_of pair (Break other) = other == pair
is_break_of pair item = false

-- a pair may have traffic where its sides can be brought up and nothing is written past the transport
pub record MayHaveTraffic (pair : PairPlan) : Type 0 where
  pub ordinary : pair.raw ≡ false
  pub agree : Agree pair

-- a lane with traffic: its queue is one of both sides', and its ring isn't too long
pub record IsTrafficLane (plan : Plan) (lane : LaneName) : Type 0 where
  pub declared : IsPairOf plan lane.pair
  pub may : MayHaveTraffic (pair_plan plan lane.pair)
  pub among : (lane.queue < (pair_plan plan lane.pair).a.queues) × (lane.queue < (pair_plan plan lane.pair).b.queues)
  pub short : (sizes_of (pair_plan plan lane.pair) lane.from lane.queue).entries ≤ most_traffic_entries

-- an item of the traffic: a frame has a byte at least, and is one entry
abbrev pub IsTraffic : Plan → Traffic → Type 0
IsTraffic plan (Send lane frame) =
    IsTrafficLane plan lane × (0 < length frame) × (length frame ≤ (sizes_of (pair_plan plan lane.pair) lane.from lane.queue).largest)
IsTraffic plan (Break pair) = IsPairOf plan pair × MayHaveTraffic (pair_plan plan pair)

-- what holds of every plan that a script declares
pub record IsWhole (plan : Plan) : Type 0 where
  pub declared : IsDeclared plan
  pub switches : AreSwitches plan
  pub steps : All (λ line. IsMakeable plan line.step) plan.steps
  pub few_steps : length plan.steps ≤ most_steps
  pub traffic : All (IsTraffic plan) plan.traffic
  pub few_frames : sum (map frames_in plan.traffic) ≤ most_traffic_frames
  pub few_bytes : sum (map traffic_bytes_in plan.traffic) ≤ most_traffic_bytes
  pub few_breaks : (pair : ℕ) → count_by (is_break_of pair) plan.traffic ≤ most_breaks
