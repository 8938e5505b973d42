-- The numbers of a pair's rings, by version and by each side's own numbers of windows and queues.
use Rattle.std.specs.Prelude.{ℕ, ◌+◌, ◌-◌, ◌*◌, ◌/◌, ◌==◌, ◌&&◌, max, min, if◌then◌else◌}
use Rattle.step_kinds.specs.Limits.{most_frame_bytes}
use Rattle.step_kinds.specs.Sides.{other_side}
use Rattle.step_kinds.specs.declared.names.Side.{Side}
use Rattle.step_kinds.specs.declared.plan.PairPlan.{PairPlan}
use Rattle.ring_geometry.specs.Geometry.{Layout, entries_of, max_payload_of}
use Rattle.pair_model.specs.Plans.{side_plan}

-- the version that a pair speaks: 5 where both sides declare it, else 4
abbrev pub agreed_version : PairPlan → ℕ
agreed_version plan = if plan.a.version == 5 && plan.b.version == 5 then 5 else 4

-- the bytes of a header: version, length and flags, and on version 5 the number of entries that follow before them
abbrev pub header_bytes : PairPlan → ℕ
header_bytes plan = if agreed_version plan == 5 then 16 else 12

-- where a side's rings lie in a window of this many bytes, by the side's own numbers
abbrev pub layout_in : PairPlan → Side → ℕ → ℕ → Layout
layout_in plan side size queue =
    let own = side_plan plan side in
    record { window = size; windows = own.windows; queues = own.queues; queue = queue; mtu = plan.mtu; header = header_bytes plan }

-- the ring that a side sends to on a queue: it lies in a window that the side sends through
abbrev pub layout_of : PairPlan → Side → ℕ → Layout
layout_of plan from queue = layout_in plan from (side_plan plan from).size queue

-- the ring that a side receives in on a queue: it lies in a window that the peer sends through
abbrev pub layout_to : PairPlan → Side → ℕ → Layout
layout_to plan side queue = layout_in plan side (side_plan plan (other_side side)).size queue

-- the numbers of a lane's ring
pub record Sizes : Type 0 where
  -- slots of the ring, the most bytes of an entry's payload, and the most bytes of a frame
  pub entries : ℕ
  pub largest : ℕ
  pub most : ℕ

-- a frame is one entry on version 4; on version 5 it may take all the entries that a ring has free at most, and has
-- 65,536 bytes at most
abbrev pub most_bytes : PairPlan → ℕ → ℕ → ℕ
most_bytes plan entries largest = if agreed_version plan == 5 then min most_frame_bytes ((entries - 1) * largest) else largest

abbrev pub sizes_in : PairPlan → Layout → Sizes
sizes_in plan layout =
    record { entries = entries_of layout; largest = max_payload_of layout; most = most_bytes plan (entries_of layout) (max_payload_of layout) }

abbrev pub sizes_of : PairPlan → Side → ℕ → Sizes
sizes_of plan from queue = sizes_in plan (layout_of plan from queue)

-- how many entries of this many bytes a frame of this many bytes takes: one at least
abbrev pub pieces_in : ℕ → ℕ → ℕ
pieces_in largest len = max 1 ((len + largest - 1) / largest)
