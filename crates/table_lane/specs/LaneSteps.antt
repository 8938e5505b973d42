-- The steps of a lane that a step of its table is.
use Rattle.std.specs.Prelude.{ℕ, List, [], ◌∷◌, map}
use Rattle.table_lane.specs.LaneNames.{LaneStep, Begin, Post, Land, GiveBack}
use Rattle.table_lane.specs.LaneNames.{Entry, entry_of_frame, Flag, Bell, data_of, writes_of, count_from}

-- a posted header is stored: the entry is begun, and all its writes are posted
abbrev pub send_steps : ℕ → List ℕ → List LaneStep
send_steps n frame = Begin (entry_of_frame frame) ∷ map (λ write. Post) (writes_of n (entry_of_frame frame))

-- a header is stored: the fields of the entry land
abbrev pub header_steps : ℕ → Entry → List LaneStep
header_steps n entry = map Land (data_of n entry)

-- a flag is stored: it lands, and the doorbell after it
abbrev pub flag_steps : ℕ → List LaneStep
flag_steps n = Land (Flag n) ∷ Land Bell ∷ []

-- the index word is stored: all index writes up to it land
abbrev pub index_steps : ℕ → ℕ → List LaneStep
index_steps from more = map GiveBack (count_from from more)
