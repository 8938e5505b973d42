-- Rows of parts of a queue: the writes that stand in them, the room after them, and what holds a write back.
use Rattle.std.specs.Prelude.{◌≡◌, ℕ, ◌<◌, ◌≤◌, ◌==◌, ◌+◌, Bool, false, if◌then◌else◌, List, [], ◌∷◌, ◌++◌, Option, Some, None, zero, suc, length, take, drop, remove, slice_index_or}
use Rattle.std.specs.List.{list_any, flat_map}
use Rattle.order_rules.specs.Order.{Order}
use Rattle.posted_queue.specs.declared.row.Spot.{Spot}

-- a part of a queue
pub record PartState (W : Type 0) : Type 0 where
  pub writes : List W
  -- how many more can be pushed with no further memory
  pub spare : ℕ
  -- how many more it can take in all as it is, with further memory where need be
  pub left : ℕ

-- a part where none stands
abbrev pub no_part : {W : Type 0} → PartState W
no_part = record { writes = []; spare = 0; left = 0 }

-- whether one of these writes has the class that a later one waits for
abbrev pub is_held_back : {W : Type 0} → (W → Order) → Option ℕ → List W → Bool
is_held_back order None before = false
is_held_back order (Some class) before = list_any (λ write. (order write).class == class) before

-- the writes of a row of parts, one part after the other
abbrev pub row_writes_in : {W : Type 0} → List (PartState W) → List W
row_writes_in row = flat_map (λ part. part.writes) row

-- the room of all parts of a row
abbrev pub row_room_in : {W : Type 0} → List (PartState W) → ℕ
row_room_in [] = 0
row_room_in (part ∷ rest) = part.spare + row_room_in rest

-- how many more writes this many places of a row can take in all: a place where no part stands yet takes what an empty
-- part does, which is `most`
abbrev pub left_in : {W : Type 0} → ℕ → ℕ → List (PartState W) → ℕ
left_in most zero row = 0
left_in {W} most (suc places) [] = most + left_in {W = W} most places []
left_in most (suc places) (part ∷ rest) = part.left + left_in most places rest

-- two parts, of which the first takes writes for as long as the second has none
abbrev pub queue_joined : {W : Type 0} → PartState W → PartState W → PartState W
queue_joined front rest = record {
  writes = front.writes ++ rest.writes;
  spare = if length rest.writes == 0 then front.spare + rest.spare else rest.spare;
  left = if length rest.writes == 0 then front.left + rest.left else rest.left;
}

-- the part of this number in a row
abbrev pub part_at : {W : Type 0} → List (PartState W) → ℕ → PartState W
part_at row number = slice_index_or row number no_part

-- the spot is where the write at a place stands in a row
pub record IsRowSpot {W : Type 0} (row : List (PartState W)) (place : ℕ) (spot : Spot) : Type 0 where
  pub part_there : spot.part < length row
  pub place_there : spot.place < length (part_at row spot.part).writes
  pub adds_up : place ≡ length (row_writes_in (take spot.part row)) + spot.place

-- a row keeps its writes and what it can take, from each part on; no stretch of parts has less room, and none is gone
pub record KeepsWrites {W : Type 0} (most : ℕ) (old new : List (PartState W)) : Type 0 where
  pub writes : (number : ℕ) → row_writes_in (drop number new) ≡ row_writes_in (drop number old)
  pub room : (from to : ℕ) → row_room_in (drop from (take to old)) ≤ row_room_in (drop from (take to new))
  pub left : (places number : ℕ) → left_in most places (drop number new) ≡ left_in most places (drop number old)
  pub len : length old ≤ length new

-- the write at a place is taken out of a part, and no room is lost
pub record TakesOut {W : Type 0} (old new : List (PartState W)) (place part : ℕ) : Type 0 where
  pub writes : row_writes_in new ≡ remove (row_writes_in old) place
  pub len : length new ≡ length old
  pub there : part < length old
  pub behind : (number : ℕ) → row_writes_in (drop number old) ≡ [] → row_writes_in (drop number new) ≡ []
  pub room : (number : ℕ) → row_room_in (drop number old) ≤ row_room_in (drop number new)

-- a part with no write, but with so much room, is moved after all others
pub record MovesLast {W : Type 0} (old new : List (PartState W)) (part room : ℕ) : Type 0 where
  pub writes : row_writes_in new ≡ row_writes_in old
  pub len : length new ≡ length old
  pub behind : (number : ℕ) → part < number → row_writes_in (drop number new) ≡ row_writes_in (drop (suc number) old)
  pub room_behind : (number : ℕ) → part ≤ number → number < length old → row_room_in (drop number new) ≡ row_room_in (drop (suc number) old) + room
