-- The stretches of one memory that the writes of its peer's rings fill: payloads, parts of headers and index words,
-- of all queues in all windows.
use Rattle.std.specs.Prelude.{◌≢◌, ℕ, ◌+◌, ◌*◌, ◌<◌, ◌≤◌, ◌⊎◌}
use Rattle.ring_geometry.specs.Geometry.{Layout, layout_with, HasRing, window_of, entries_of, max_payload_of, slot_of, header_of, index_of}
use Rattle.ring_geometry.specs.Laws.{StandApart}

-- the numbers of the rings in one memory: bytes of each window that the peer sends through and of each that the memory
-- gives, and what the pair agreed on
pub record Rings : Type 0 where
  pub size : ℕ
  pub cap : ℕ
  pub windows : ℕ
  pub queues : ℕ
  pub mtu : ℕ
  pub header : ℕ

-- the layout of a queue's ring
abbrev pub layout_at : Rings → ℕ → Layout
layout_at rings queue = layout_with rings.size rings.windows rings.queues queue rings.mtu rings.header

-- the address of a byte of the window that a queue's ring lies in: the windows follow one another in the memory
abbrev pub address_of : Rings → ℕ → ℕ → ℕ
address_of rings queue offset = rings.cap * window_of (layout_at rings queue) + offset

-- what one write fills: the payload of a queue's slot, some bytes of a slot's header from one of them on, or a queue's
-- index word
pub data Spot : Type 0 where
  Payload : ℕ → ℕ → Spot
  Header : ℕ → ℕ → ℕ → ℕ → Spot
  Index : ℕ → Spot

abbrev pub spot_queue_of : Spot → ℕ
spot_queue_of (Payload queue slot) = queue
spot_queue_of (Header queue slot from len) = queue
spot_queue_of (Index queue) = queue

-- where a spot begins in its window
abbrev pub offset_in : Layout → Spot → ℕ
offset_in l (Payload queue slot) = slot_of l slot
offset_in l (Header queue slot from len) = header_of l slot + from
offset_in l (Index queue) = index_of l

-- how many bytes it has
abbrev pub spot_bytes_in : Layout → Spot → ℕ
spot_bytes_in l (Payload queue slot) = max_payload_of l
spot_bytes_in l (Header queue slot from len) = len
spot_bytes_in l (Index queue) = 4

-- the slot is one of the ring's, and a header's bytes are in the header
abbrev pub IsIn : Layout → Spot → Type 0
IsIn l (Payload queue slot) = slot < entries_of l
IsIn l (Header queue slot from len) = (slot < entries_of l) × (from + len ≤ l.header)
IsIn l (Index queue) = Unit {0}

-- the spot is one of these rings'
abbrev pub IsSpot : Rings → Spot → Type 0
IsSpot rings spot = HasRing (layout_at rings (spot_queue_of spot)) × IsIn (layout_at rings (spot_queue_of spot)) spot

abbrev pub spot_at : Rings → Spot → ℕ
spot_at rings spot = address_of rings (spot_queue_of spot) (offset_in (layout_at rings (spot_queue_of spot)) spot)

abbrev pub spot_bytes : Rings → Spot → ℕ
spot_bytes rings spot = spot_bytes_in (layout_at rings (spot_queue_of spot)) spot

-- two spots, neither part of the other: of two queues, of two slots, a payload and a header, two fields of a header, or
-- one of them an index word
abbrev pub AreOther : Spot → Spot → Type 0
AreOther (Payload queue slot) (Payload queue' slot') = (queue ≢ queue') ⊎ (slot ≢ slot')
AreOther (Payload queue slot) (Header queue' slot' from' len') = Unit {0}
AreOther (Payload queue slot) (Index queue') = Unit {0}
AreOther (Header queue slot from len) (Payload queue' slot') = Unit {0}
AreOther (Header queue slot from len) (Header queue' slot' from' len') = (queue ≢ queue') ⊎ (slot ≢ slot') ⊎ StandApart from len from' len'
AreOther (Header queue slot from len) (Index queue') = Unit {0}
AreOther (Index queue) (Payload queue' slot') = Unit {0}
AreOther (Index queue) (Header queue' slot' from' len') = Unit {0}
AreOther (Index queue) (Index queue') = queue ≢ queue'

-- two such spots of one memory share no byte, if the peer's windows fit into those that the memory gives
abbrev pub SpotsStandApart : Type 0
SpotsStandApart = (rings : Rings) → rings.size ≤ rings.cap → (one other : Spot) → IsSpot rings one → IsSpot rings other → AreOther one other
    → StandApart (spot_at rings one) (spot_bytes rings one) (spot_at rings other) (spot_bytes rings other)

-- a spot lies in its window, as the peer's size has it, and in the memory where such windows fit into those that the
-- memory gives
abbrev pub SpotsLieInside : Type 0
SpotsLieInside = (rings : Rings) → (spot : Spot) → IsSpot rings spot
    → (offset_in (layout_at rings (spot_queue_of spot)) spot + spot_bytes rings spot ≤ rings.size)
    × (rings.size ≤ rings.cap → spot_at rings spot + spot_bytes rings spot ≤ rings.cap * rings.windows)
