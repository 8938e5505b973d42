-- The places of one queue's ring in a translation window. All divisions drop the rest.
use Rattle.std.specs.Prelude.{ℕ, ◌+◌, ◌-◌, ◌*◌, ◌/◌, ◌%◌, ◌<◌, ◌≤◌, min, nat_lt, if◌then◌else◌}
use Rattle.step_kinds.specs.Limits.{most_frame_bytes, most_mtu, most_queues, most_size, most_windows}

-- the six numbers that all places of a ring follow from
pub record Layout : Type 0 where
  -- the bytes of the translation window that the ring lies in
  pub window : ℕ
  -- how many translation windows the side has
  pub windows : ℕ
  -- how many queues the side has
  pub queues : ℕ
  -- which of them this is
  pub queue : ℕ
  -- the most bytes that an entry may take
  pub mtu : ℕ
  -- the bytes of the header that ends each entry
  pub header : ℕ

-- the layout of these numbers, in the record's order
abbrev pub layout_with : ℕ → ℕ → ℕ → ℕ → ℕ → ℕ → Layout
layout_with window windows queues queue mtu header =
    record { window = window; windows = windows; queues = queues; queue = queue; mtu = mtu; header = header }

-- the window of the queue: the queues take the windows in turn
abbrev pub window_of : Layout → ℕ
window_of l = l.queue % l.windows

-- how many queues lie in that window
abbrev pub queues_in_window : Layout → ℕ
queues_in_window l = l.queues / l.windows + (if nat_lt (window_of l) (l.queues % l.windows) then 1 else 0)

-- the bytes of the window that each of them has
abbrev pub area : Layout → ℕ
area l = l.window / queues_in_window l

-- where the queue's area begins in its window
abbrev pub area_start : Layout → ℕ
area_start l = area l * (l.queue / l.windows)

-- the bytes of the area that entries may take: all but the index word
abbrev pub ring_bytes : Layout → ℕ
ring_bytes l = area l - 4

-- the bytes of an entry: two fit at least
abbrev pub frame_size : Layout → ℕ
frame_size l = min l.mtu (ring_bytes l / 2)

-- how many entries the ring has
abbrev pub entries_of : Layout → ℕ
entries_of l = ring_bytes l / frame_size l

-- the most bytes that an entry holds before its header
abbrev pub max_payload_of : Layout → ℕ
max_payload_of l = frame_size l - l.header

-- the most bytes of a frame that may take several entries: those that are free in an empty ring, and 65,536 at most
abbrev pub longest_of : Layout → ℕ
longest_of l = min most_frame_bytes ((entries_of l - 1) * max_payload_of l)

-- where an entry begins in the window
abbrev pub slot_of : Layout → ℕ → ℕ
slot_of l i = area_start l + i * frame_size l

-- where an entry's header begins in the window: at the entry's end
abbrev pub header_of : Layout → ℕ → ℕ
header_of l i = slot_of l i + frame_size l - l.header

-- where the index word stands in the window: in the last four bytes of the area
abbrev pub index_of : Layout → ℕ
index_of l = area_start l + area l - 4

-- there is a window, the queue is one of the side's, its area has room for the index word, and an entry for a header
-- and four bytes more
pub record HasRing (l : Layout) : Type 0 where
  pub some_window : 0 < l.windows
  pub a_queue : l.queue < l.queues
  pub index_fits : 4 ≤ area l
  pub header_fits : l.header + 4 ≤ frame_size l

-- the limits of the numbers that a `Geometry` takes
pub record FitsLimits (l : Layout) : Type 0 where
  pub window_fits : l.window ≤ most_size
  pub windows_fit : l.windows ≤ most_windows
  pub queues_fit : l.queues ≤ most_queues
  pub mtu_fits : l.mtu ≤ most_mtu
  pub header_fits : l.header ≤ 16

-- what every `Geometry` keeps
pub record IsPlaced (l : Layout) : Type 0 where
  pub ring : HasRing l
  pub limits : FitsLimits l
