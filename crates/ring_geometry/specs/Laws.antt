-- What holds of the places of every ring.
use Rattle.std.specs.Prelude.{◌≡◌, ◌≢◌, ℕ, ◌+◌, ◌-◌, ◌<◌, ◌≤◌, ◌⊎◌}
use Rattle.lane_model.specs.Ring.{free_entries, head_of, tail_of, room_of}
use Rattle.ring_geometry.specs.Geometry.{Layout, HasRing, window_of, area, area_start, frame_size, entries_of, max_payload_of, slot_of, header_of, index_of}

-- a ring has two entries at least
abbrev pub HasTwoEntries : Type 0
HasTwoEntries = (l : Layout) → HasRing l → 2 ≤ entries_of l

-- an entry ends before a later one begins
abbrev pub SlotsStandApart : Type 0
SlotsStandApart = (l : Layout) → HasRing l → (i j : ℕ) → i < j → slot_of l i + frame_size l ≤ slot_of l j

-- an entry is the largest payload and then the header, with nothing between and nothing after
abbrev pub HeaderEndsSlot : Type 0
HeaderEndsSlot = (l : Layout) → HasRing l → (i : ℕ) → (slot_of l i + max_payload_of l ≡ header_of l i) × (header_of l i + l.header ≡ slot_of l i + frame_size l)

-- the index word stands after all entries and ends the area
abbrev pub IndexFollowsSlots : Type 0
IndexFollowsSlots = (l : Layout) → HasRing l → ((i : ℕ) → i < entries_of l → slot_of l i + frame_size l ≤ index_of l) × (area_start l ≤ index_of l) × (index_of l + 4 ≡ area_start l + area l)

-- two layouts of one side: they differ in the queue alone, as far as the windows go
pub record IsSameSide (k l : Layout) : Type 0 where
  pub window : k.window ≡ l.window
  pub windows : k.windows ≡ l.windows
  pub queues : k.queues ≡ l.queues

-- two stretches of bytes that share none
abbrev pub StandApart : ℕ → ℕ → ℕ → ℕ → Type 0
StandApart from len from' len' = (from + len ≤ from') ⊎ (from' + len' ≤ from)

-- the areas of two queues in one window share no byte
abbrev pub AreasStandApart : Type 0
AreasStandApart = (k l : Layout) → HasRing k → HasRing l → IsSameSide k l → window_of k ≡ window_of l → k.queue ≢ l.queue → StandApart (area_start k) (area k) (area_start l) (area l)

-- an area lies within its window, and the window is one of the side's
abbrev pub AreaLiesInWindow : Type 0
AreaLiesInWindow = (l : Layout) → HasRing l → (area_start l + area l ≤ l.window) × (window_of l < l.windows)

-- what head and index word show as free is what the counts say, in a ring of two entries at least, while one stays free
abbrev pub FreeIsRoom : Type 0
FreeIsRoom = (entries begun freed : ℕ) → 2 ≤ entries → freed ≤ begun → begun ≤ freed + entries - 1 → free_entries entries (head_of entries begun) (tail_of entries freed) ≡ room_of entries begun freed
