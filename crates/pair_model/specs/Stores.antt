-- What was stored in a memory: a list of stores, the newest first. It knows no ring and no ledger.
use Rattle.std.specs.Prelude.{ℕ, ◌+◌, ◌-◌, ◌&&◌, Bool, List, [], ◌∷◌, length, map, slice_index, nat_le, nat_lt, if◌then◌else◌}
use Rattle.lane_model.specs.Lane.{count_from}

-- these bytes were stored from an address on
pub record Store : Type 0 where
  pub at : ℕ
  pub bytes : List ℕ

abbrev pub store_at : ℕ → List ℕ → Store
store_at at bytes = record { at = at; bytes = bytes }

-- whether a store wrote the byte at an address
abbrev pub covers : Store → ℕ → Bool
covers store address = nat_le store.at address && nat_lt address (store.at + length store.bytes)

-- the byte at an address: the last one that was stored there, else 0
abbrev pub byte_in : List Store → ℕ → ℕ
byte_in [] address = 0
byte_in (store ∷ older) address = if covers store address then slice_index store.bytes (address - store.at) else byte_in older address

-- this many bytes from an address on
abbrev pub bytes_in : List Store → ℕ → ℕ → List ℕ
bytes_in stores at len = map (byte_in stores) (count_from at len)
