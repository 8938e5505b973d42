-- What a call of a port sees of a pair and does to it.
use Rattle.std.specs.Prelude.{◌≡◌, ℕ, ◌+◌, ◌-◌, ◌≤◌, true, false, Option, Some, None, List, length, nat_lt, All, Any, Bool, if◌then◌else◌}
use Rattle.step_kinds.specs.Sides.{other_side}
use Rattle.step_kinds.specs.declared.names.Side.{Side}
use Rattle.step_kinds.specs.declared.plan.PairPlan.{PairPlan}
use Rattle.step_kinds.specs.declared.steps.Label.{Label}
use Rattle.step_kinds.specs.declared.steps.Label.TheVariants.{Bell, Index}
use Rattle.lane_model.specs.Lane.{Entry}
use Rattle.lane_model.specs.Tests.{is_idle, is_copying}
use Rattle.pair_model.specs.DeclaredPlans.{SizesFit}
use Rattle.pair_model.specs.Plans.{side_plan}
use Rattle.pair_model.specs.Addresses.{own_header}
use Rattle.pair_model.specs.Headers.{Bytes, flags_offset}
use Rattle.pair_model.specs.FreshRings.{zeroed_flags}
use Rattle.pair_model.specs.RingWrites.{WindowWrite, entry_write, index_write, store_of_write}
use Rattle.host_memory.specs.Memory.{ArePromised, Touches, bytes_at, written}
use Rattle.posted_queue.specs.Flight.{given_back, promised}
use Rattle.bridge_pair.specs.Bridge.{Bridge, bridge_bytes_of, pages_of, flight_of, with_bytes, with_flight}
use Rattle.bridge_pair.specs.Calls.{bridge_after_post as after_posting}
use Rattle.bridge_pair.specs.Writes.{memory_write, bell_write}
use Rattle.frame_ring.specs.Port.{PortState, Left, writes_left, unused_of}

-- the bytes of the two memories
abbrev pub bytes_seen : Bridge → Bytes
bytes_seen bridge = λ side at len. bytes_at at len (bridge_bytes_of bridge side)

-- What a pair has to be for its rings: sides that a handshake could bring up, as far as queues, windows and sizes go. A
-- raw pair's sides may differ in queues and windows, and their sizes fit by the pair's plan.
pub record FitsRings (plan : PairPlan) : Type 0 where
  pub queues : plan.raw ≡ false → plan.a.queues ≡ plan.b.queues
  pub windows : plan.raw ≡ false → plan.a.windows ≡ plan.b.windows
  pub sizes : SizesFit plan

-- Posting

-- whether the peer has a window
abbrev pub reaches : PairPlan → Side → ℕ → Bool
reaches plan side window = nat_lt window (side_plan plan (other_side side)).windows

-- a ring's write goes out; through a window that the peer lacks it is lost, and its promise is given back
abbrev pub window_posted : Bridge → Side → Label → WindowWrite → Bridge
window_posted bridge side label write =
    if reaches bridge.plan side write.window
    then after_posting bridge side (memory_write label write.window write.offset write.bytes)
    else with_flight bridge side (given_back (flight_of bridge side) 1)

-- the write of a label, which is one of this entry's, goes out; one that goes through no window is a doorbell
abbrev pub ring_posted : Bridge → Side → Entry → Label → Bridge
ring_posted bridge side entry (Bell queue) = after_posting bridge side (bell_write queue)
ring_posted bridge side entry label = through (entry_write bridge.plan side entry label) where
  through : Option WindowWrite → Bridge
  through None = bridge
  through (Some write) = window_posted bridge side label write

abbrev pub index_posted : Bridge → Side → ℕ → ℕ → Bridge
index_posted bridge side queue n = window_posted bridge side (Index queue n) (index_write bridge.plan side queue n)

-- Clearing

-- the flags of the slot in which a side received entry n are zero
abbrev pub flags_cleared : Bridge → Side → ℕ → ℕ → Bridge
flags_cleared bridge side queue n =
    let store = zeroed_flags bridge.plan side queue n in
    with_bytes bridge side (written store.at store.bytes (bridge_bytes_of bridge side))

-- Promises

-- the pages of what a write stores at the peer are promised there, if the peer has its window
abbrev pub IsReadyToLand : PairPlan → Side → List ℕ → WindowWrite → Type 0
IsReadyToLand plan side pages write = reaches plan side write.window ≡ true → ArePromised (store_of_write plan side write).at (length write.bytes) pages

-- a write that goes through no window needs no page
abbrev pub IsPortReady : PairPlan → Side → List ℕ → Option WindowWrite → Type 0
IsPortReady plan side pages None = Unit {0}
IsPortReady plan side pages (Some write) = IsReadyToLand plan side pages write

abbrev pub IsLeftReady : PairPlan → Side → List ℕ → Left → Type 0
IsLeftReady plan side pages left = IsPortReady plan side pages (entry_write plan side left.entry left.label)

-- the entry at hand: the one to be taken next, or the one that was taken last
abbrev pub entry_at_hand : PortState → ℕ
entry_at_hand port = if is_copying port.receiving.phase then port.receiving.got else port.receiving.got - 1

-- The pages that a port's calls were promised are there, in its own memory and in the peer's. They are those of all
-- writes left to post, and of the flags and the index write of the entry at hand.
pub record HasPortPages (port : PortState) (own peer : List ℕ) : Type 0 where
  pub writes : All (IsLeftReady port.plan port.side peer) (writes_left port)
  pub flags : is_idle port.receiving.phase ≡ false → ArePromised (own_header port.plan port.side port.queue (entry_at_hand port) + flags_offset port.plan) 4 own
  pub index_word : is_idle port.receiving.phase ≡ false → IsReadyToLand port.plan port.side peer (index_write port.plan port.side port.queue (entry_at_hand port))

abbrev pub HasPagesIn : PortState → Bridge → Type 0
HasPagesIn port bridge = HasPortPages port (pages_of bridge port.side) (pages_of bridge (other_side port.side))

-- the page has a byte of what a write stores at the peer, through a window that the peer has
abbrev pub TouchesWrite : PairPlan → Side → WindowWrite → ℕ → Type 0
TouchesWrite plan side write page = (reaches plan side write.window ≡ true) × Touches (store_of_write plan side write).at (length write.bytes) page

-- a write that goes through no window stores nothing
abbrev pub TouchesOf : PairPlan → Side → ℕ → Option WindowWrite → Type 0
TouchesOf plan side page None = ⊥
TouchesOf plan side page (Some write) = TouchesWrite plan side write page

-- the page has a byte of what one of these writes stores at the peer, through a window that the peer has
abbrev pub TouchesLeft : PairPlan → Side → List Left → ℕ → Type 0
TouchesLeft plan side lefts page = Any (λ (left : Left). TouchesOf plan side page (entry_write plan side left.entry left.label)) lefts

-- Room

-- the bridge with room promised for this many more writes of a side
abbrev pub with_room : Bridge → Side → ℕ → Bridge
with_room bridge side more = with_flight bridge side (promised (flight_of bridge side) more)

-- the promises that a port hasn't used yet are there
abbrev pub HasRoomIn : PortState → Bridge → Type 0
HasRoomIn port bridge = unused_of port ≤ (flight_of bridge port.side).spare
