-- The pages that a frame or a link-down entry needs in the peer's memory, by the ranges that its entries fill.
use Rattle.std.specs.Prelude.{◌≡◌, ℕ, ◌+◌, ◌<◌, ◌⊎◌, true, List, length}
use Rattle.pair_model.specs.Addresses.{queue_address}
use Rattle.pair_model.specs.RingWrites.{header_offset, slot_offset}
use Rattle.host_memory.specs.Memory.{ArePromised, Touches}
use Rattle.lane_model.specs.Lane.{Entry, bytes_of}
use Rattle.pair_model.specs.Sizes.{header_bytes, layout_of}
use Rattle.ring_geometry.specs.Geometry.{window_of}
use Rattle.frame_ring.specs.Outgoing.{entry_at}
use Rattle.frame_ring.specs.Rings.{QueueOf}
use Rattle.frame_ring.specs.PortView.{reaches}

-- the peer has the window of the queue
abbrev pub ReachesPeer : QueueOf → Type 0
ReachesPeer rings = reaches rings.plan rings.side (window_of (layout_of rings.plan rings.side rings.queue)) ≡ true

-- this many bytes from an offset of that window on
abbrev pub TouchesRange : QueueOf → ℕ → ℕ → ℕ → Type 0
TouchesRange rings offset len page = ReachesPeer rings × Touches (queue_address rings.plan rings.side rings.queue offset) len page

abbrev pub IsRangePromised : QueueOf → ℕ → ℕ → List ℕ → Type 0
IsRangePromised rings offset len pages = ReachesPeer rings → ArePromised (queue_address rings.plan rings.side rings.queue offset) len pages

-- entry n with this many bytes: its payload and its header
abbrev pub TouchesEntry : QueueOf → ℕ → ℕ → ℕ → Type 0
TouchesEntry rings n len page =
    TouchesRange rings (slot_offset rings.plan rings.side rings.queue n) len page
    ⊎ TouchesRange rings (header_offset rings.plan rings.side rings.queue n) (header_bytes rings.plan) page

pub record IsEntryPromised (rings : QueueOf) (n len : ℕ) (pages : List ℕ) : Type 0 where
  pub payload : IsRangePromised rings (slot_offset rings.plan rings.side rings.queue n) len pages
  pub header : IsRangePromised rings (header_offset rings.plan rings.side rings.queue n) (header_bytes rings.plan) pages

-- these entries, the first of which has this number
abbrev pub TouchesEntries : QueueOf → ℕ → List Entry → ℕ → Type 0
TouchesEntries rings from entries page = (k : ℕ) × (k < length entries) × TouchesEntry rings (from + k) (length (bytes_of (entry_at entries k))) page

abbrev pub AreEntriesPromised : QueueOf → ℕ → List Entry → List ℕ → Type 0
AreEntriesPromised rings from entries pages = (k : ℕ) → k < length entries → IsEntryPromised rings (from + k) (length (bytes_of (entry_at entries k))) pages
