-- Where rings and index words stand in the memories of a pair: addresses by each side's own numbers.
use Rattle.std.specs.Prelude.{ℕ, ◌+◌, ◌*◌, ◌%◌}
use Rattle.step_kinds.specs.Sides.{other_side}
use Rattle.step_kinds.specs.declared.names.Side.{Side}
use Rattle.step_kinds.specs.declared.plan.PairPlan.{PairPlan}
use Rattle.ring_geometry.specs.Geometry.{Layout, entries_of, window_of, slot_of, header_of, index_of}
use Rattle.pair_model.specs.Plans.{side_plan}
use Rattle.pair_model.specs.Sizes.{layout_of, layout_to}

-- A queue's ring in a memory: the address of each place in the ring's window, and how the ring is laid out there.
pub record MemoryRing : Type 0 where
  pub address : ℕ → ℕ
  pub layout : Layout

-- the address of the slot of entry n, and of its header
abbrev pub slot_address : MemoryRing → ℕ → ℕ
slot_address ring n = ring.address (slot_of ring.layout (n % entries_of ring.layout))

abbrev pub header_address : MemoryRing → ℕ → ℕ
header_address ring n = ring.address (header_of ring.layout (n % entries_of ring.layout))

-- the address of the index word
abbrev pub index_word_address : MemoryRing → ℕ
index_word_address ring = ring.address (index_of ring.layout)

-- In a side's own memory

-- the address of a place in the window of one of the side's queues
abbrev pub own_address : PairPlan → Side → ℕ → ℕ → ℕ
own_address plan side queue offset = window_of (layout_to plan side queue) * (side_plan plan side).cap + offset

-- the ring in which the side receives, with the index word of the lane that it sends
abbrev pub own_ring : PairPlan → Side → ℕ → MemoryRing
own_ring plan side queue = record { address = own_address plan side queue; layout = layout_to plan side queue }

abbrev pub own_slot : PairPlan → Side → ℕ → ℕ → ℕ
own_slot plan side queue n = slot_address (own_ring plan side queue) n

abbrev pub own_header : PairPlan → Side → ℕ → ℕ → ℕ
own_header plan side queue n = header_address (own_ring plan side queue) n

abbrev pub own_index_word : PairPlan → Side → ℕ → ℕ
own_index_word plan side queue = index_word_address (own_ring plan side queue)

-- In the peer's memory, through the windows that a side sends through

-- the address of a place in a window
abbrev pub peer_address : PairPlan → Side → ℕ → ℕ → ℕ
peer_address plan side window offset = window * (side_plan plan (other_side side)).cap + offset

-- the same in the window of one of the side's queues
abbrev pub queue_address : PairPlan → Side → ℕ → ℕ → ℕ
queue_address plan side queue offset = peer_address plan side (window_of (layout_of plan side queue)) offset

-- the ring to which the side sends, with the index word of the lane that it receives
abbrev pub peer_ring : PairPlan → Side → ℕ → MemoryRing
peer_ring plan side queue = record { address = queue_address plan side queue; layout = layout_of plan side queue }
