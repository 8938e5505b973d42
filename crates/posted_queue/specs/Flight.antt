-- The posted writes of one direction that are in flight, and the room that is promised for more.
use Rattle.std.specs.Prelude.{ℕ, List, [], ◌∷◌, ◌++◌, ◌+◌, ◌-◌}

-- the writes in the order in which they were posted, and how many more can be posted without asking for memory
pub record Flight (W : Type 0) : Type 0 where
  pub writes : List W
  pub spare : ℕ

-- nothing in flight, and no room promised
abbrev pub nothing_in_flight : {W : Type 0} → Flight W
nothing_in_flight = record { writes = []; spare = 0 }

-- room is promised for this many more writes
abbrev pub promised : {W : Type 0} → Flight W → ℕ → Flight W
promised flight more = record { writes = flight.writes; spare = flight.spare + more }

-- the promise of this many writes is given back
abbrev pub given_back : {W : Type 0} → Flight W → ℕ → Flight W
given_back flight count = record { writes = flight.writes; spare = flight.spare - count }

-- the write is posted after all others, into room that was promised
abbrev pub posted : {W : Type 0} → Flight W → W → Flight W
posted flight write = record { writes = flight.writes ++ write ∷ []; spare = flight.spare - 1 }

-- no write is in flight any more, and what was promised stays promised
abbrev pub discarded : {W : Type 0} → Flight W → Flight W
discarded flight = record { writes = []; spare = flight.spare }
