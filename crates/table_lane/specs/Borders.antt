-- If the slots of a ring are, and what is in them. A slot is at home or out with a seat; at home it is empty or has a
-- frame.
use Rattle.std.specs.Prelude.{◌≡◌, ℕ, ◌+◌, ◌%◌, ◌<◌, ◌≤◌, List, [], length, slice_index_or, Option, Some, None, if◌then◌else◌, nat_lt}
use mathlib.Core.Option.{some, none}
use mathlib.Core.Option as home
use lib.ListN.{get_elem?}
use Rattle.table_lane.specs.Views.{TableBytes}

-- Counts of entries that follow one another. Between two of them all slots are in the same place.
pub record Borders : Type 0 where
  -- given back to the sender
  pub freed : ℕ
  -- cleared by the receiver
  pub cleared : ℕ
  -- looked at by the receiver
  pub looked : ℕ
  -- with their flags stored
  pub flagged : ℕ
  -- taken by the mover
  pub taken : ℕ
  -- sent
  pub sent : ℕ
  -- sent, or with the sender to be sent
  pub claimed : ℕ

abbrev pub Slots : Type 0
Slots = List (home.Option (Option TableBytes))

abbrev pub empty : home.Option (Option TableBytes)
empty = some None

abbrev pub out : home.Option (Option TableBytes)
out = none

abbrev pub full : List TableBytes → ℕ → home.Option (Option TableBytes)
full sent n = some (Some (slice_index_or sent n []))

-- the slot of entry n, or of the entry N before it where n is still to be sent
abbrev pub slot_at : Borders → List TableBytes → ℕ → home.Option (Option TableBytes)
slot_at counts sent n =
    -- on its way back, or just cleared
    if nat_lt n counts.cleared then empty
    -- with the receiver
    else if nat_lt n counts.looked then out
    -- landed
    else if nat_lt n counts.flagged then full sent n
    -- in flight, with the mover
    else if nat_lt n counts.taken then out
    -- in flight, and not yet taken
    else if nat_lt n counts.sent then full sent n
    -- with the sender
    else if nat_lt n counts.claimed then out
    -- the sender's
    else empty

pub record TableSlotsStand (N : ℕ) (counts : Borders) (sent : List TableBytes) (slots : Slots) : Type 0 where
  pub count : length slots ≡ N
  pub at : (n : ℕ) → counts.freed ≤ n → n < counts.freed + N → get_elem? slots (n % N) ≡ some (slot_at counts sent n)
