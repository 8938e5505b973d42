-- Where a slot is, by its owner in the lane that the table shows.
use Rattle.std.specs.Prelude.{◌≡◌, ℕ, ◌+◌, ◌%◌, ◌<◌, ◌≤◌, ◌==◌, ◌&&◌, length, Option, if◌then◌else◌, nat_lt}
use mathlib.Core.Option.{some}
use mathlib.Core.Option as home
use lib.ListN.{get_elem?}
use Rattle.table_lane.specs.LaneNames.{Owner, Sender, InFlight, Landed, Receiver, Returning, owner_of, is_copying, is_copied}
use Rattle.table_lane.specs.Views.{TableBytes}
use Rattle.table_lane.specs.Borders.{Slots, empty, out, full}
use Rattle.table_lane.specs.Knowledge.{table_taken}
use Rattle.table_lane.specs.Moment.{Moment, ShowsLane}

-- the slot of entry n, by its owner
abbrev pub place_by : Owner → Moment → ℕ → home.Option (Option TableBytes)
-- the sender has it where it is to send the next entry in it
place_by Sender m n = if m.send.claims && (n == length m.send.sent) then out else empty
-- in flight it is at home with its frame until the mover takes it
place_by InFlight m n = if nat_lt n (table_taken m.mover) then out else full m.send.sent n
-- landed it is at home with its frame until the receiver looks at it
place_by Landed m n = if is_copying m.recv.phase && (n == length m.recv.got) then out else full m.send.sent n
-- the receiver has it until it clears the flag
place_by Receiver m n = if is_copied m.recv.phase then out else empty
place_by Returning m n = empty

abbrev pub OwnersHaveSlots : Type 0
OwnersHaveSlots = (N : ℕ) (m : Moment) (slots : Slots) → ShowsLane N m slots → (n : ℕ) → m.lane.freed ≤ n → n < m.lane.freed + N
    → get_elem? slots (n % N) ≡ some (place_by (owner_of m.lane n) m n)
