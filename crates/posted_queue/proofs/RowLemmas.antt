-- The writes and the room of a row of parts.
use Rattle.std.proofs.Common.{◌≡◌, ℕ, ◌<◌, ◌≤◌, ◌+◌, ◌-◌, zero, suc, true, ◌==◌, ◌||◌, List, [], ◌∷◌, ◌++◌, length, get_or, set, take, drop, Option, Some, None, refl, sym, ap, subst, ◌∙◌, arith, append_assoc, append-nil, length-append, take-append-drop, zero-add, length-set}
use Rattle.std.proofs.lemmas.Bool.{or_left, or_right}
use Rattle.std.proofs.lemmas.List.{take_more, drop_all, take_all, get_or_default, set_split, set-get_or, length_push, length-take-le, drop-append-le}
use Rattle.std.proofs.lemmas.List.Concat.{flat_map-append}
use Rattle.std.proofs.lemmas.List.Folds.{list_any-append, length-flat_map-take}
use Rattle.order_rules.specs.Order.{Order}
use Rattle.posted_queue.specs.Rows.{PartState, no_part, left_in, is_held_back, row_writes_in, row_room_in, part_at, KeepsWrites}

-- the writes of a row are those of its front and then those of the rest
pub writes_in-append : {W : Type 0} (xs ys : List (PartState W)) → row_writes_in (xs ++ ys) ≡ row_writes_in xs ++ row_writes_in ys
writes_in-append xs ys = flat_map-append (λ part. part.writes) xs ys

-- The writes of a row are those of its first parts, and then those of the parts after them.
pub writes_in-split : {W : Type 0} (row : List (PartState W)) (n : ℕ) → row_writes_in row ≡ row_writes_in (take n row) ++ row_writes_in (drop n row)
writes_in-split row n = ap row_writes_in (sym (take-append-drop n row)) ∙ writes_in-append (take n row) (drop n row)

-- one more part
pub writes_in-take_more : {W : Type 0} (row : List (PartState W)) (n : ℕ) → n < length row → row_writes_in (take (n + 1) row) ≡ row_writes_in (take n row) ++ (part_at row n).writes
writes_in-take_more row n within =
    ap row_writes_in (take_more row n no_part within)
    ∙ writes_in-append (take n row) (part_at row n ∷ [])
    ∙ ap (λ rest. row_writes_in (take n row) ++ rest) (append-nil (part_at row n).writes)

-- what holds a write back stands in the one part or in the other
pub is_held_back-append : {W : Type 0} (order : W → Order) (waits_for : Option ℕ) (xs ys : List W) → is_held_back order waits_for (xs ++ ys) ≡ (is_held_back order waits_for xs || is_held_back order waits_for ys)
is_held_back-append order None xs ys = refl
is_held_back-append order (Some class) xs ys = list_any-append (λ write. (order write).class == class) xs ys

-- the front of a list after this many elements
pub take-append_far : {X : Type 0} (xs ys : List X) (n : ℕ) → length xs ≤ n → take n (xs ++ ys) ≡ xs ++ take (n - length xs) ys
take-append_far [] ys n far = ap (λ k. take k ys) (omega arith)
take-append_far (x ∷ xs) ys zero far = absurd (omega arith)
take-append_far (x ∷ xs) ys (suc n) far =
    let less : suc n - length (x ∷ xs) ≡ n - length xs = omega arith in
    rw less (ap (λ rest. x ∷ rest) (take-append_far xs ys n (omega arith)))

-- a write is held back by the parts that all stand before it
pub held_back-before : {W : Type 0} (order : W → Order) (waits_for : Option ℕ) (row : List (PartState W)) (n place : ℕ) → is_held_back order waits_for (row_writes_in (take n row)) ≡ true → length (row_writes_in (take n row)) ≤ place → is_held_back order waits_for (take place (row_writes_in row)) ≡ true
held_back-before order waits_for row n place held far =
    ap (λ writes. is_held_back order waits_for (take place writes)) (writes_in-split row n)
    ∙ ap (is_held_back order waits_for) (take-append_far (row_writes_in (take n row)) (row_writes_in (drop n row)) place far)
    ∙ is_held_back-append order waits_for (row_writes_in (take n row)) (take (place - length (row_writes_in (take n row))) (row_writes_in (drop n row)))
    ∙ or_left _ _ held

-- a write is held back by a part after whose writes it stands
pub held_back-at : {W : Type 0} (order : W → Order) (waits_for : Option ℕ) (row : List (PartState W)) (n place left : ℕ) (part : PartState W) → n < length row → part ≡ get_or row n part → place ≡ length (row_writes_in (take n row)) + left → length part.writes ≤ left → is_held_back order waits_for part.writes ≡ true → is_held_back order waits_for (take place (row_writes_in row)) ≡ true
held_back-at order waits_for row n place left part within read adds_up far held =
    let same : part_at row n ≡ part = get_or_default row n no_part part within ∙ sym read in
    let more : row_writes_in (take (n + 1) row) ≡ row_writes_in (take n row) ++ part.writes = subst (λ p. row_writes_in (take (n + 1) row) ≡ row_writes_in (take n row) ++ p.writes) same (writes_in-take_more row n within) in
    held_back-before order waits_for row (n + 1) place
    (ap (is_held_back order waits_for) more ∙ is_held_back-append order waits_for (row_writes_in (take n row)) part.writes ∙ or_right _ _ held)
    (let long : length (row_writes_in (take (n + 1) row)) ≡ length (row_writes_in (take n row)) + length part.writes = ap length more ∙ length-append (row_writes_in (take n row)) part.writes in omega arith)

-- one part of a row has no more writes than the row
pub length-part : {W : Type 0} (row : List (PartState W)) (n : ℕ) (part : PartState W) → n < length row → part ≡ get_or row n part → length part.writes ≤ length (row_writes_in row)
length-part row n part within read =
    let at : part_at row n ≡ part = get_or_default row n no_part part within ∙ sym read in
    let whole = length-flat_map-take (λ p. p.writes) row n no_part within in
    subst (λ p. length p.writes ≤ length (row_writes_in row)) at (omega arith)

-- the writes of a row of which one part is another
pub writes_in-set : {W : Type 0} (row : List (PartState W)) (n : ℕ) (part : PartState W) → n < length row → row_writes_in (set row n part) ≡ row_writes_in (take n row) ++ (part.writes ++ row_writes_in (drop (suc n) row))
writes_in-set row n part within = ap row_writes_in (set_split row n part within) ∙ writes_in-append (take n row) (part ∷ drop (suc n) row)

-- and of the row itself, seen from that part
pub writes_in-at : {W : Type 0} (row : List (PartState W)) (n : ℕ) → n < length row → row_writes_in row ≡ row_writes_in (take n row) ++ ((part_at row n).writes ++ row_writes_in (drop (suc n) row))
writes_in-at row n within = ap row_writes_in (sym (set-get_or row n no_part)) ∙ writes_in-set row n (part_at row n) within

-- the room of a row is that of its front and that of the rest
pub room_in-append : {W : Type 0} (xs ys : List (PartState W)) → row_room_in (xs ++ ys) ≡ row_room_in xs + row_room_in ys
room_in-append [] ys = sym (zero-add (row_room_in ys))
room_in-append (x ∷ xs) ys = let e = room_in-append xs ys in omega arith

-- a write after all others of a part, if the parts after it have none
pub writes_in-push : {W : Type 0} (row : List (PartState W)) (n : ℕ) (old new : PartState W) (write : W) → n < length row → old ≡ get_or row n old → new.writes ≡ old.writes ++ write ∷ [] → row_writes_in (drop (suc n) row) ≡ [] → row_writes_in (set row n new) ≡ row_writes_in row ++ write ∷ []
writes_in-push row n old new write within read pushed behind =
    let same : part_at row n ≡ old = get_or_default row n no_part old within ∙ sym read in
    let before = row_writes_in (take n row) in
    let after : row_writes_in (set row n new) ≡ before ++ ((old.writes ++ write ∷ []) ++ []) =
    writes_in-set row n new within ∙ ap (λ ws. before ++ (ws ++ row_writes_in (drop (suc n) row))) pushed ∙ ap (λ ws. before ++ ((old.writes ++ write ∷ []) ++ ws)) behind in
    let was : row_writes_in row ≡ before ++ (old.writes ++ []) =
    writes_in-at row n within ∙ ap (λ part. before ++ (part.writes ++ row_writes_in (drop (suc n) row))) same ∙ ap (λ ws. before ++ (old.writes ++ ws)) behind in
    let joined : before ++ ((old.writes ++ write ∷ []) ++ []) ≡ (before ++ (old.writes ++ [])) ++ write ∷ [] = simp (append-nil, append_assoc) in
    after ∙ joined ∙ sym (ap (λ ws. ws ++ write ∷ []) was)

-- a row keeps its writes and its room where one part has the same writes and no less room
writes_in-drop_set : {W : Type 0} (row : List (PartState W)) (n number : ℕ) (new : PartState W) → n < length row → new.writes ≡ (part_at row n).writes → row_writes_in (drop number (set row n new)) ≡ row_writes_in (drop number row)
writes_in-drop_set [] n number new within same = absurd (omega arith)
writes_in-drop_set (x ∷ xs) zero zero new within same = ap (λ ws. ws ++ row_writes_in xs) same
writes_in-drop_set (x ∷ xs) zero (suc number) new within same = refl
writes_in-drop_set (x ∷ xs) (suc n) zero new within same = ap (λ ws. x.writes ++ ws) (writes_in-drop_set xs n zero new (omega arith) same)
writes_in-drop_set (x ∷ xs) (suc n) (suc number) new within same = writes_in-drop_set xs n number new (omega arith) same

room_in-stretch_set : {W : Type 0} (row : List (PartState W)) (n from to : ℕ) (new : PartState W) → n < length row → (part_at row n).spare ≤ new.spare → row_room_in (drop from (take to row)) ≤ row_room_in (drop from (take to (set row n new)))
room_in-stretch_set [] n from to new within more = absurd (omega arith)
room_in-stretch_set (x ∷ xs) zero from zero new within more = omega arith
room_in-stretch_set (x ∷ xs) (suc n) from zero new within more = omega arith
room_in-stretch_set (x ∷ xs) zero zero (suc to) new within more = omega arith
room_in-stretch_set (x ∷ xs) zero (suc from) (suc to) new within more = omega arith
room_in-stretch_set (x ∷ xs) (suc n) zero (suc to) new within more = let rest = room_in-stretch_set xs n zero to new (omega arith) more in omega arith
room_in-stretch_set (x ∷ xs) (suc n) (suc from) (suc to) new within more = room_in-stretch_set xs n from to new (omega arith) more

left_in-drop_set : {W : Type 0} (most : ℕ) (row : List (PartState W)) (n places number : ℕ) (new : PartState W) → n < length row → new.left ≡ (part_at row n).left → left_in most places (drop number (set row n new)) ≡ left_in most places (drop number row)
left_in-drop_set most [] n places number new within same = absurd (omega arith)
left_in-drop_set most (x ∷ xs) zero zero zero new within same = refl
left_in-drop_set most (x ∷ xs) (suc n) zero zero new within same = refl
left_in-drop_set most (x ∷ xs) zero (suc places) zero new within same = omega arith
left_in-drop_set most (x ∷ xs) (suc n) (suc places) zero new within same = let rest = left_in-drop_set most xs n places zero new (omega arith) same in omega arith
left_in-drop_set most (x ∷ xs) zero places (suc number) new within same = refl
left_in-drop_set most (x ∷ xs) (suc n) places (suc number) new within same = left_in-drop_set most xs n places number new (omega arith) same

-- A row is kept where one part becomes another of the same writes, that can take as many, and has no less room.
pub kept-set : {W : Type 0} (most : ℕ) (row : List (PartState W)) (n : ℕ) (old new : PartState W) → n < length row → old ≡ get_or row n old → new.writes ≡ old.writes → old.spare ≤ new.spare → new.left ≡ old.left → KeepsWrites most row (set row n new)
kept-set most row n old new within read same more same_left = record {
  writes = λ number. writes_in-drop_set row n number new within (same ∙ ap (λ part. part.writes) (sym at));
  room = λ from to. room_in-stretch_set row n from to new within (subst (λ part. part.spare ≤ new.spare) (sym at) more);
  left = λ places number. left_in-drop_set most row n places number new within (same_left ∙ ap (λ part. part.left) (sym at));
  len = (let e = length-set row n new in omega (arith, e));
}
  where
    at : part_at row n ≡ old
    at = get_or_default row n no_part old within ∙ sym read

-- and where an empty part comes after all others
pub writes_in-drop_push : {W : Type 0} (row : List (PartState W)) (number : ℕ) (part : PartState W) → part.writes ≡ [] → row_writes_in (drop number (row ++ part ∷ [])) ≡ row_writes_in (drop number row)
writes_in-drop_push [] zero part none = ap (λ ws. ws ++ []) none
writes_in-drop_push [] (suc number) part none = ap row_writes_in (drop_all number [] (omega arith))
writes_in-drop_push (x ∷ xs) zero part none = ap (λ ws. x.writes ++ ws) (writes_in-drop_push xs zero part none)
writes_in-drop_push (x ∷ xs) (suc number) part none = writes_in-drop_push xs number part none

room_in-stretch_push : {W : Type 0} (row : List (PartState W)) (from to : ℕ) (part : PartState W) → row_room_in (drop from (take to row)) ≤ row_room_in (drop from (take to (row ++ part ∷ [])))
room_in-stretch_push [] from zero part = omega arith
room_in-stretch_push [] zero (suc to) part = omega arith
room_in-stretch_push [] (suc from) (suc to) part = omega arith
room_in-stretch_push (x ∷ xs) from zero part = omega arith
room_in-stretch_push (x ∷ xs) zero (suc to) part = let rest = room_in-stretch_push xs zero to part in omega arith
room_in-stretch_push (x ∷ xs) (suc from) (suc to) part = room_in-stretch_push xs from to part

left_in-drop_push : {W : Type 0} (most : ℕ) (row : List (PartState W)) (places number : ℕ) (part : PartState W) → part.left ≡ most → left_in most places (drop number (row ++ part ∷ [])) ≡ left_in most places (drop number row)
left_in-drop_push most [] zero zero part empty = refl
left_in-drop_push most [] (suc places) zero part empty = omega arith
left_in-drop_push most [] places (suc number) part empty = ap (left_in most places) (drop_all number [] (omega arith))
left_in-drop_push most (x ∷ xs) zero zero part empty = refl
left_in-drop_push most (x ∷ xs) (suc places) zero part empty = let rest = left_in-drop_push most xs places zero part empty in omega arith
left_in-drop_push most (x ∷ xs) places (suc number) part empty = left_in-drop_push most xs places number part empty

-- A row is kept where a part with no write, which can take the most, comes after all others.
pub kept-push : {W : Type 0} (most : ℕ) (row : List (PartState W)) (part : PartState W) → part.writes ≡ [] → part.left ≡ most → KeepsWrites most row (row ++ part ∷ [])
kept-push most row part none empty = record {
  writes = λ number. writes_in-drop_push row number part none;
  room = λ from to. room_in-stretch_push row from to part;
  left = λ places number. left_in-drop_push most row places number part empty;
  len = omega (arith, length_push row part);
}

-- what is kept twice is kept
pub kept-kept : {W : Type 0} (most : ℕ) (xs ys zs : List (PartState W)) → KeepsWrites most xs ys → KeepsWrites most ys zs → KeepsWrites most xs zs
kept-kept most xs ys zs first second = record {
  writes = λ number. second.writes number ∙ first.writes number;
  room = λ from to. (let a = first.room from to in let b = second.room from to in omega arith);
  left = λ places number. second.left places number ∙ first.left places number;
  len = omega arith;
}

-- the room of a stretch of parts is no more than that of all parts from its first one on
pub room_in-stretch : {W : Type 0} (row : List (PartState W)) (from to : ℕ) → row_room_in (drop from (take to row)) ≤ row_room_in (drop from row)
room_in-stretch [] zero zero = omega arith
room_in-stretch [] zero (suc to) = omega arith
room_in-stretch [] (suc from) zero = omega arith
room_in-stretch [] (suc from) (suc to) = omega arith
room_in-stretch (x ∷ xs) zero zero = omega arith
room_in-stretch (x ∷ xs) (suc from) zero = omega arith
room_in-stretch (x ∷ xs) zero (suc to) = let rest = room_in-stretch xs zero to in omega arith
room_in-stretch (x ∷ xs) (suc from) (suc to) = room_in-stretch xs from to

-- the room of all parts from one on grows
pub kept-room : {W : Type 0} (most : ℕ) (old new : List (PartState W)) (from : ℕ) → KeepsWrites most old new → row_room_in (drop from old) ≤ row_room_in (drop from new)
kept-room most old new from kept =
    let whole : row_room_in (drop from (take (length old) old)) ≡ row_room_in (drop from old) = ap (λ row. row_room_in (drop from row)) (take_all (length old) old (omega arith)) in
    let more = kept.room from (length old) in
    let part = room_in-stretch new from (length old) in
    omega arith

-- what the places from a part on can take is what that part and the places after it can take
left_in-at : {W : Type 0} (most : ℕ) (row : List (PartState W)) (number places : ℕ) → number < length row → left_in most (suc places) (drop number row) ≡ (part_at row number).left + left_in most places (drop (suc number) row)
left_in-at most [] number places within = absurd (omega arith)
left_in-at most (x ∷ xs) zero places within = refl
left_in-at most (x ∷ xs) (suc number) places within = left_in-at most xs number places (omega arith)

-- If a row is kept, its places from a part on could take before what that part and the later places can now.
pub kept-left : {W : Type 0} (most : ℕ) (old new : List (PartState W)) (number places : ℕ) → KeepsWrites most old new → number < length new → number < places → left_in most (places - number) (drop number old) ≡ (part_at new number).left + left_in most (places - (number + 1)) (drop (number + 1) new)
kept-left most old new number places kept within some =
    let one_more : places - number ≡ suc (places - (number + 1)) = omega arith in
    let next : suc number ≡ number + 1 = omega arith in
    sym (kept.left (places - number) number)
    ∙ ap (λ n. left_in most n (drop number new)) one_more
    ∙ left_in-at most new number (places - (number + 1)) within
    ∙ ap (λ n. (part_at new number).left + left_in most (places - (number + 1)) (drop n new)) next

-- the room of the parts from one on, with one more part
pub room_in-take_part : {W : Type 0} (row : List (PartState W)) (from n : ℕ) → from ≤ n → n < length row → row_room_in (drop from (take (n + 1) row)) ≡ row_room_in (drop from (take n row)) + (part_at row n).spare
room_in-take_part row from n low within =
    let long : length (take n row) ≡ n = length-take-le n row (omega arith) in
    ap (λ front. row_room_in (drop from front)) (take_more row n no_part within)
    ∙ ap row_room_in (drop-append-le from (take n row) (part_at row n ∷ []) (omega arith))
    ∙ room_in-append (drop from (take n row)) (part_at row n ∷ [])
    ∙ (omega arith)

-- A stretch of a row's parts that gets one part longer has that part's room more.
pub room_in-take_more : {W : Type 0} (row : List (PartState W)) (from n : ℕ) (part : PartState W) → from ≤ n → n < length row → part ≡ get_or row n part → row_room_in (drop from (take (n + 1) row)) ≡ row_room_in (drop from (take n row)) + part.spare
room_in-take_more row from n part low within read =
    let at : part_at row n ≡ part = get_or_default row n no_part part within ∙ sym read in
    room_in-take_part row from n low within ∙ ap (λ p. row_room_in (drop from (take n row)) + p.spare) at
