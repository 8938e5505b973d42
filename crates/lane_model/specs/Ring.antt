-- The numbers of a ring with a fixed number of entries, of which one always stays free.
-- `begun` counts the entries that the sender began in the session, `freed` those whose index write has landed.
use Rattle.std.specs.Prelude.{ℕ, ◌+◌, ◌-◌, ◌%◌, if◌then◌else◌, nat_le}

-- the slot of the next entry
abbrev pub head_of : ℕ → ℕ → ℕ
head_of entries begun = begun % entries

-- the slot of the last entry that was given back: what the index word says
abbrev pub tail_of : ℕ → ℕ → ℕ
tail_of entries freed = (freed + entries - 1) % entries

-- the entries that are free, as head and index word show it
abbrev pub free_entries : ℕ → ℕ → ℕ → ℕ
free_entries entries head tail = if nat_le head tail then tail - head else entries + tail - head

-- the entries that are free, as the counts say it
abbrev pub room_of : ℕ → ℕ → ℕ → ℕ
room_of entries begun freed = entries - 1 - (begun - freed)
