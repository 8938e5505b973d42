-- How the parts of a level stand after a write was found, pushed or taken out.
use Rattle.std.proofs.Common.{◌≡◌, ℕ, ◌<◌, ◌≤◌, ◌+◌, ◌-◌, zero, suc, false, ◌||◌, List, [], ◌∷◌, ◌++◌, length, get_or, set, take, drop, Option, Some, slice_get, refl, sym, ap, subst, ◌∙◌, arith, append-nil, length-append, length-set, drop-cons}
use Rattle.std.specs.List.{remove}
use Rattle.std.proofs.lemmas.List.{get_or_default, drop-append-le, nil_from_length, length_push, drop_all, take-append-le}
use Rattle.std.proofs.lemmas.List.Edits.{length-remove, remove-append_left, remove-append_right}
use Rattle.order_rules.specs.Order.{Order}
use Rattle.posted_queue.specs.declared.row.Spot.{Spot}
use Rattle.posted_queue.specs.Rows.{PartState, no_part, is_held_back, row_writes_in, row_room_in, part_at, IsRowSpot, TakesOut, MovesLast}
use Rattle.posted_queue.specs.Levels.{IsLevel}
use Rattle.posted_queue.proofs.RowLemmas.{writes_in-append, writes_in-split, writes_in-drop_push, writes_in-at, writes_in-set, is_held_back-append, take-append_far, room_in-append}

-- the element after a list's front
pub slice_get-append_far : {X : Type 0} (xs ys : List X) (n k : ℕ) → n ≡ length xs + k → slice_get (xs ++ ys) n ≡ slice_get ys k
slice_get-append_far [] ys n k e = ap (slice_get ys) (omega arith)
slice_get-append_far (x ∷ xs) ys zero k e = absurd (omega arith)
slice_get-append_far (x ∷ xs) ys (suc n) k e = slice_get-append_far xs ys n k (omega arith)

slice_get-append_near : {X : Type 0} (xs ys : List X) (k : ℕ) → k < length xs → slice_get (xs ++ ys) k ≡ slice_get xs k
slice_get-append_near [] ys k near = absurd (omega arith)
slice_get-append_near (x ∷ xs) ys zero near = refl
slice_get-append_near (x ∷ xs) ys (suc k) near = slice_get-append_near xs ys k (omega arith)

-- the part that a spot names
spot-part : {W : Type 0} (row : List (PartState W)) (place : ℕ) (spot : Spot) (part : PartState W) → IsRowSpot row place spot → part ≡ get_or row spot.part part → part_at row spot.part ≡ part
spot-part row place spot part is read = get_or_default row spot.part no_part part is.part_there ∙ sym read

-- the write at a place of a row is the one at its spot
pub spot-slice_get : {W : Type 0} (row : List (PartState W)) (place : ℕ) (spot : Spot) (part : PartState W) → IsRowSpot row place spot → part ≡ get_or row spot.part part → slice_get (row_writes_in row) place ≡ slice_get part.writes spot.place
spot-slice_get row place spot part is read =
    let at : part_at row spot.part ≡ part = spot-part row place spot part is read in
    let behind = row_writes_in (drop (suc spot.part) row) in
    let within : spot.place < length part.writes = subst (λ p. spot.place < length p.writes) at is.place_there in
    ap (λ writes. slice_get writes place) (writes_in-at row spot.part is.part_there)
    ∙ slice_get-append_far (row_writes_in (take spot.part row)) ((part_at row spot.part).writes ++ behind) place spot.place is.adds_up
    ∙ ap (λ p. slice_get (p.writes ++ behind) spot.place) at
    ∙ slice_get-append_near part.writes behind spot.place within

-- the writes of a row, those before and after a spot's part apart
record IsParted {W : Type 0} (row : List (PartState W)) (place : ℕ) (spot : Spot) (part : PartState W) (before behind : List W) : Type 0 where
  within : spot.place < length part.writes
  whole : row_writes_in row ≡ before ++ (part.writes ++ behind)
  less : place - length before ≡ spot.place

spot-parts : {W : Type 0} (row : List (PartState W)) (place : ℕ) (spot : Spot) (part : PartState W) → IsRowSpot row place spot → part ≡ get_or row spot.part part
    → IsParted row place spot part (row_writes_in (take spot.part row)) (row_writes_in (drop (suc spot.part) row))
spot-parts row place spot part is read =
    let at : part_at row spot.part ≡ part = spot-part row place spot part is read in
    record {
      within = subst (λ p. spot.place < length p.writes) at is.place_there;
      whole = writes_in-at row spot.part is.part_there ∙ ap (λ p. row_writes_in (take spot.part row) ++ (p.writes ++ row_writes_in (drop (suc spot.part) row))) at;
      less = (let e = is.adds_up in omega arith);
    }

-- a taking at the spot is a taking at the place
pub spot-remove : {W : Type 0} (row : List (PartState W)) (place : ℕ) (spot : Spot) (old new : PartState W) → IsRowSpot row place spot → old ≡ get_or row spot.part old → new.writes ≡ remove old.writes spot.place → row_writes_in (set row spot.part new) ≡ remove (row_writes_in row) place
spot-remove row place spot old new is read taken =
    let before = row_writes_in (take spot.part row) in
    let behind = row_writes_in (drop (suc spot.part) row) in
    let parted = spot-parts row place spot old is read in
    writes_in-set row spot.part new is.part_there
    ∙ ap (λ writes. before ++ (writes ++ behind)) taken
    ∙ ap (λ writes. before ++ writes) (sym (remove-append_left old.writes behind spot.place parted.within))
    ∙ ap (λ n. before ++ remove (old.writes ++ behind) n) (sym parted.less)
    ∙ sym (remove-append_right before (old.writes ++ behind) (length before) place refl (let e = is.adds_up in omega arith))
    ∙ ap (λ writes. remove writes place) (sym parted.whole)

-- where no part before holds a write back, the writes before it in its own part decide
pub spot-is_held_back : {W : Type 0} (order : W → Order) (waits_for : Option ℕ) (row : List (PartState W)) (place : ℕ) (spot : Spot) (part : PartState W) → IsRowSpot row place spot → part ≡ get_or row spot.part part → is_held_back order waits_for (row_writes_in (take spot.part row)) ≡ false → is_held_back order waits_for (take place (row_writes_in row)) ≡ is_held_back order waits_for (take spot.place part.writes)
spot-is_held_back order waits_for row place spot part is read free =
    let before = row_writes_in (take spot.part row) in
    let behind = row_writes_in (drop (suc spot.part) row) in
    let parted = spot-parts row place spot part is read in
    ap (λ writes. is_held_back order waits_for (take place writes)) parted.whole
    ∙ ap (is_held_back order waits_for) (take-append_far before (part.writes ++ behind) place (let e = is.adds_up in omega arith))
    ∙ ap (λ n. is_held_back order waits_for (before ++ take n (part.writes ++ behind))) parted.less
    ∙ ap (λ writes. is_held_back order waits_for (before ++ writes)) (take-append-le spot.place part.writes behind (let near = parted.within in omega arith))
    ∙ is_held_back-append order waits_for before (take spot.place part.writes)
    ∙ ap (λ b. b || is_held_back order waits_for (take spot.place part.writes)) free

-- a part is there where a write stands from it on
pub within-some : {W : Type 0} (row : List (PartState W)) (n : ℕ) → 0 < length (row_writes_in (drop n row)) → n < length row
within-some {W} [] n some =
    let none : length (row_writes_in (drop n [])) ≡ 0 = ap (λ (rest : List (PartState W)). length (row_writes_in rest)) (drop_all n [] (omega arith)) in absurd (omega (arith, none))
within-some (x ∷ xs) zero some = omega arith
within-some (x ∷ xs) (suc n) some = let rest = within-some xs n some in omega arith

-- the first write is at the start of the first part that has one
pub first_spot : {W : Type 0} (row : List (PartState W)) (n : ℕ) (part : PartState W) → 0 < length (row_writes_in row) → part ≡ get_or row n part → 0 < length part.writes → row_writes_in (drop n row) ≡ row_writes_in row → IsRowSpot row 0 (record { part = n; place = 0 })
first_spot {W} row n part all read some whole = record {
  part_there = within;
  place_there = subst (λ p. 0 < length p.writes) (sym (get_or_default row n no_part part within ∙ sym read)) some;
  adds_up = (let sum = ap length (writes_in-split row n) ∙ length-append (row_writes_in (take n row)) (row_writes_in (drop n row)) in
      let same = ap length whole in
      omega arith);
}
  where
    within : n < length row
    within = within-some row n (subst (λ (writes : List W). 0 < length writes) (sym whole) all)

-- the first write of a part is what stands at place 0, and the others are left
pub first-slice_get : {W : Type 0} (writes rest : List W) (write : W) → writes ≡ write ∷ rest → slice_get writes 0 ≡ Some write
first-slice_get writes rest write first = ap (λ all. slice_get all 0) first

-- Taking out the first write of a list leaves the rest of it.
pub first-remove : {W : Type 0} (writes rest : List W) (write : W) → writes ≡ write ∷ rest → rest ≡ remove writes 0
first-remove writes rest write first = sym (ap (λ all. remove all 0) first)

-- no part after the last one in use has a write
pub behind-later : {W : Type 0} (row : List (PartState W)) (n m : ℕ) → n ≤ m → row_writes_in (drop n row) ≡ [] → row_writes_in (drop m row) ≡ []
behind-later [] n m low none = ap row_writes_in (drop_all m [] (omega arith))
behind-later (x ∷ xs) zero zero low none = none
behind-later (x ∷ xs) zero (suc m) low none = behind-later xs zero m (omega arith) (no_rest x.writes (row_writes_in xs) none)
  where
    no_rest : {X : Type 0} (front rest : List X) → front ++ rest ≡ [] → rest ≡ []
    no_rest [] rest e = e
    no_rest (y ∷ ys) rest e = cc
behind-later (x ∷ xs) (suc n) zero low none = absurd (omega arith)
behind-later (x ∷ xs) (suc n) (suc m) low none = behind-later xs n m (omega arith) none

-- the parts from one on have no less room, if a part has no less
room_in-drop_set : {W : Type 0} (row : List (PartState W)) (from n : ℕ) (new : PartState W) → n < length row → (part_at row n).spare ≤ new.spare → row_room_in (drop from row) ≤ row_room_in (drop from (set row n new))
room_in-drop_set [] from n new within more = absurd (omega arith)
room_in-drop_set (x ∷ xs) zero zero new within more = omega arith
room_in-drop_set (x ∷ xs) zero (suc n) new within more = let rest = room_in-drop_set xs zero n new (omega arith) more in omega arith
room_in-drop_set (x ∷ xs) (suc from) zero new within more = omega arith
room_in-drop_set (x ∷ xs) (suc from) (suc n) new within more = room_in-drop_set xs from n new (omega arith) more

-- no more writes stand from a part on, if one part has no more
length-writes_in-drop_set : {W : Type 0} (row : List (PartState W)) (from n : ℕ) (new : PartState W) → n < length row → length new.writes ≤ length (part_at row n).writes → length (row_writes_in (drop from (set row n new))) ≤ length (row_writes_in (drop from row))
length-writes_in-drop_set [] from n new within fewer = absurd (omega arith)
length-writes_in-drop_set (x ∷ xs) zero zero new within fewer = simp length-append (omega arith)
length-writes_in-drop_set (x ∷ xs) zero (suc n) new within fewer = let rest = length-writes_in-drop_set xs zero n new (omega arith) fewer in simp length-append (omega arith)
length-writes_in-drop_set (x ∷ xs) (suc from) zero new within fewer = omega arith
length-writes_in-drop_set (x ∷ xs) (suc from) (suc n) new within fewer = length-writes_in-drop_set xs from n new (omega arith) fewer

-- no write stands after the last part in use once one was taken
behind-taken : {W : Type 0} (row : List (PartState W)) (from n place : ℕ) (old new : PartState W) → n < length row → old ≡ get_or row n old → place < length old.writes → new.writes ≡ remove old.writes place → row_writes_in (drop from row) ≡ [] → row_writes_in (drop from (set row n new)) ≡ []
behind-taken row from n place old new within read there taken none =
    let at : part_at row n ≡ old = get_or_default row n no_part old within ∙ sym read in
    let less : length new.writes + 1 ≡ length old.writes = subst (λ writes. length writes + 1 ≡ length old.writes) (sym taken) (length-remove old.writes place there) in
    let fewer : length new.writes ≤ length (part_at row n).writes = subst (λ part. length new.writes ≤ length part.writes) (sym at) (omega arith) in
    let bound = length-writes_in-drop_set row from n new within fewer in
    let zero_long : length (row_writes_in (drop from row)) ≡ 0 = ap length none in
    nil_from_length (row_writes_in (drop from (set row n new))) (omega arith)

-- what is left after an element that is taken out
drop-remove : {X : Type 0} (xs : List X) (n i : ℕ) → i ≤ n → i < length xs → drop n (remove xs i) ≡ drop (suc n) xs
drop-remove [] n i low within = absurd (omega arith)
drop-remove (x ∷ xs) n zero low within = refl
drop-remove (x ∷ xs) zero (suc i) low within = absurd (omega arith)
drop-remove (x ∷ xs) (suc n) (suc i) low within = drop-remove xs n i (omega arith) (omega arith)

-- the writes of a row stay where an empty part is moved after all others
pub writes_in-moved : {W : Type 0} (row : List (PartState W)) (n : ℕ) (part : PartState W) → n < length row → part ≡ get_or row n part → part.writes ≡ [] → row_writes_in (remove row n ++ part ∷ []) ≡ row_writes_in row
writes_in-moved row n part within read none =
    let at : part_at row n ≡ part = get_or_default row n no_part part within ∙ sym read in
    let before = row_writes_in (take n row) in
    let behind = row_writes_in (drop (suc n) row) in
    let whole : row_writes_in row ≡ before ++ behind =
    writes_in-at row n within ∙ ap (λ p. before ++ (p.writes ++ behind)) at ∙ ap (λ writes. before ++ (writes ++ behind)) none in
    writes_in-append (remove row n) (part ∷ [])
    ∙ ap (λ writes. row_writes_in (remove row n) ++ (writes ++ [])) none
    ∙ append-nil (row_writes_in (remove row n))
    ∙ writes_in-append (take n row) (drop (suc n) row)
    ∙ sym whole

-- what a part with no write leaves behind when it is moved after all others
pub moves_last : {W : Type 0} (row : List (PartState W)) (n : ℕ) (part : PartState W) → n < length row → part ≡ get_or row n part → (part_at row n).writes ≡ [] → MovesLast row (remove row n ++ part ∷ []) n part.spare
moves_last row n part within read none = record {
  writes = writes_in-moved row n part within read empty;
  len = length_push (remove row n) part ∙ length-remove row n within;
  behind = λ number before. writes_in-drop_push (remove row n) number part empty ∙ ap row_writes_in (drop-remove row number n (omega arith) within);
  room_behind = λ number low inside.
      let shorter = length-remove row n within in
      let rest : row_room_in (drop number (remove row n ++ part ∷ [])) ≡ row_room_in (drop (suc number) row) + (part.spare + 0) =
      ap row_room_in (drop-append-le number (remove row n) (part ∷ []) (omega arith))
      ∙ room_in-append (drop number (remove row n)) (part ∷ [])
      ∙ ap (λ r. row_room_in r + (part.spare + 0)) (drop-remove row number n low within) in
      omega arith;
}
  where
    at : part_at row n ≡ part
    at = get_or_default row n no_part part within ∙ sym read

    empty : part.writes ≡ []
    empty = ap (λ p. p.writes) (sym at) ∙ none

-- a write that is taken out at its spot is taken out of the row
pub spot-takes_out : {W : Type 0} (row : List (PartState W)) (place : ℕ) (spot : Spot) (part new : PartState W) → IsRowSpot row place spot → part ≡ get_or row spot.part part → new.writes ≡ remove part.writes spot.place → part.spare ≤ new.spare → TakesOut row (set row spot.part new) place spot.part
spot-takes_out row place spot part new is read taken more = record {
  writes = spot-remove row place spot part new is read taken;
  len = length-set row spot.part new;
  there = is.part_there;
  behind = λ number none. behind-taken row number spot.part spot.place part new is.part_there read there taken none;
  room = λ number. room_in-drop_set row number spot.part new is.part_there (subst (λ p. p.spare ≤ new.spare) (sym at) more);
}
  where
    at : part_at row spot.part ≡ part
    at = spot-part row place spot part is read

    there : spot.place < length part.writes
    there = subst (λ p. spot.place < length p.writes) at is.place_there

-- a level stays one where a write is taken out of a part
pub level-taken : {W : Type 0} (row new : List (PartState W)) (last room place part : ℕ) → IsLevel row last room → TakesOut row new place part → IsLevel new last room
level-taken row new last room place part level taken = record {
  in_row = (let i = level.in_row in let e = taken.len in omega arith);
  behind = taken.behind (suc last) level.behind;
  room_there = (let r = level.room_there in let e = taken.room last in omega arith);
}

-- a level stays one where a part with no write, which stands before the last one in use, is moved after all others
pub level-moved : {W : Type 0} (row new : List (PartState W)) (last room part more all : ℕ) → IsLevel row last room → part < last → MovesLast row new part more → all ≤ room + more → IsLevel new (last - 1) all
level-moved row new last room part more all level before moved fits = record {
  in_row = (let i = level.in_row in let e = moved.len in omega arith);
  behind = ap (λ n. row_writes_in (drop n new)) next ∙ moved.behind last before ∙ level.behind;
  room_there = (let r = level.room_there in let i = level.in_row in
      let e = moved.room_behind (last - 1) (omega arith) (omega arith) in
      let same = ap (λ n. row_room_in (drop n row)) next in
      omega arith);
}
  where
    next : suc (last - 1) ≡ last
    next = omega arith

-- a part that has 0 writes has none
pub no_writes : {W : Type 0} (row : List (PartState W)) (n count : ℕ) (part : PartState W) → n < length row → part ≡ get_or row n part → count ≡ length part.writes → count ≡ 0 → (part_at row n).writes ≡ []
no_writes row n count part within read long none =
    ap (λ p. p.writes) (get_or_default row n no_part part within ∙ sym read) ∙ nil_from_length part.writes (sym long ∙ none)

-- the parts after one with no write have the writes that stand from it on
pub writes_in-drop_more : {W : Type 0} (row : List (PartState W)) (n count : ℕ) (part : PartState W) → n < length row → part ≡ get_or row n part → count ≡ length part.writes → count ≡ 0 → row_writes_in (drop (n + 1) row) ≡ row_writes_in (drop n row)
writes_in-drop_more row n count part within read long none =
    let next : n + 1 ≡ suc n = omega arith in
    ap (λ k. row_writes_in (drop k row)) next
    ∙ sym (ap row_writes_in (drop-cons row n no_part within) ∙ ap (λ writes. writes ++ row_writes_in (drop (suc n) row)) (no_writes row n count part within read long none))

-- a part is there where room is from it on
pub within-room : {W : Type 0} (row : List (PartState W)) (n : ℕ) → 0 < row_room_in (drop n row) → n < length row
within-room {W} [] n some =
    let none : row_room_in (drop n []) ≡ 0 = ap (λ (rest : List (PartState W)). row_room_in rest) (drop_all n [] (omega arith)) in absurd (omega (arith, none))
within-room (x ∷ xs) zero some = omega arith
within-room (x ∷ xs) (suc n) some = let rest = within-room xs n some in omega arith

-- the room from a part on is its own and that of the parts after it
pub room_in-drop_more : {W : Type 0} (row : List (PartState W)) (n : ℕ) (part : PartState W) → n < length row → part ≡ get_or row n part → row_room_in (drop n row) ≡ part.spare + row_room_in (drop (n + 1) row)
room_in-drop_more row n part within read =
    let next : suc n ≡ n + 1 = omega arith in
    ap row_room_in (drop-cons row n no_part within)
    ∙ ap (λ p. p.spare + row_room_in (drop (suc n) row)) (get_or_default row n no_part part within ∙ sym read)
    ∙ ap (λ k. part.spare + row_room_in (drop k row)) next
