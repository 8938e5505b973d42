-- Which seat has a slot that is out, by what its part knows.
use Rattle.std.specs.Prelude.{◌≡◌, ℕ, ◌+◌, ◌%◌, ◌<◌, ◌≤◌, ◌⊎◌, true, length}
use mathlib.Core.Option.{some}
use lib.ListN.{get_elem?}
use Rattle.table_lane.specs.LaneNames.{is_copying, is_copied}
use Rattle.table_lane.specs.Borders.{Slots, out}
use Rattle.table_lane.specs.Knowledge.{table_taken}
use Rattle.table_lane.specs.Moment.{Moment, ShowsLane}

-- the sender has the slot of the next entry, to send a frame in it
abbrev pub SenderHas : Moment → ℕ → Type 0
SenderHas m n = (m.send.claims ≡ true) × (n ≡ length m.send.sent)

-- the mover has those of the entries that it took, until it stores their flags
abbrev pub MoverHas : Moment → ℕ → Type 0
MoverHas m n = (m.mover.flagged ≤ n) × (n < table_taken m.mover)

-- the receiver has that of the entry that it looked at, until it clears the flag
abbrev pub ReceiverHas : Moment → ℕ → Type 0
ReceiverHas m n = ((is_copying m.recv.phase ≡ true) × (n ≡ length m.recv.got)) ⊎ ((is_copied m.recv.phase ≡ true) × (n + 1 ≡ length m.recv.got))

-- a slot that is out is with one of these
abbrev pub SlotsOutAreWithSeats : Type 0
SlotsOutAreWithSeats = (N : ℕ) (m : Moment) (slots : Slots) → ShowsLane N m slots → (n : ℕ) → m.lane.freed ≤ n → n < m.lane.freed + N
    → get_elem? slots (n % N) ≡ some out → SenderHas m n ⊎ (MoverHas m n ⊎ ReceiverHas m n)

-- and each of these has its slot out
abbrev pub SeatsHaveSlotsOut : Type 0
SeatsHaveSlotsOut = (N : ℕ) (m : Moment) (slots : Slots) → ShowsLane N m slots → (n : ℕ) → SenderHas m n ⊎ (MoverHas m n ⊎ ReceiverHas m n)
    → get_elem? slots (n % N) ≡ some out
