-- Places of lists, and parts of them from the front.
use Rattle.std.proofs.Common.{◌≡◌, ℕ, zero, suc, ◌+◌, ◌<◌, ◌≤◌, min, List, [], ◌∷◌, ◌++◌, length, take, drop, Some, None, refl, sym, ap, ◌∙◌, arith}
use Rattle.std.specs.List.{slice_get}
use Rattle.std.proofs.lemmas.List.{length-take, take_at}
use Rattle.std.proofs.lemmas.Option.{none-some, same_Some}
use Rattle.stream_model.specs.Fronts.{Begins}

-- one place further
pub take_next : {X : Type 0} (xs : List X) (i : ℕ) (x : X) → slice_get xs i ≡ Some x → take (i + 1) xs ≡ take i xs ++ x ∷ []
take_next [] i x e = absurd (none-some x e)
take_next (y ∷ xs) zero x e = ap (λ z. z ∷ []) (same_Some y x e)
take_next (y ∷ xs) (suc i) x e = let k : suc i + 1 ≡ suc (i + 1) = omega arith in ap (λ n. take n (y ∷ xs)) k ∙ ap (λ zs. y ∷ zs) (take_next xs i x e)

-- where nothing stands the list has ended
pub none_past : {X : Type 0} (xs : List X) (i : ℕ) → slice_get xs i ≡ None → length xs ≤ i
none_past [] i e = omega arith
none_past (y ∷ xs) zero e = absurd (none-some y (sym e))
none_past (y ∷ xs) (suc i) e = let h : length xs ≤ i = none_past xs i e in omega arith

-- what stands in a part from the front stands in the whole
pub get_taken : {X : Type 0} (n : ℕ) (xs : List X) (i : ℕ) (x : X) → slice_get (take n xs) i ≡ Some x → slice_get xs i ≡ Some x
get_taken zero xs i x e = absurd (none-some x e)
get_taken (suc n) [] i x e = e
get_taken (suc n) (y ∷ xs) zero x e = e
get_taken (suc n) (y ∷ xs) (suc i) x e = get_taken n xs i x e

-- the same the other way round
pub get_front : {X : Type 0} (n : ℕ) (xs : List X) (i : ℕ) → i < n → slice_get (take n xs) i ≡ slice_get xs i
get_front zero xs i h = absurd (omega arith)
get_front (suc n) [] i h = refl
get_front (suc n) (y ∷ xs) zero h = refl
get_front (suc n) (y ∷ xs) (suc i) h = get_front n xs i (omega arith)

-- What stands at a place of a list without its first items stands that many places further on in the list.
pub get_dropped : {X : Type 0} (n : ℕ) (xs : List X) (i : ℕ) → slice_get (drop n xs) i ≡ slice_get xs (n + i)
get_dropped zero xs i = let k : i ≡ 0 + i = omega arith in ap (slice_get xs) k
get_dropped (suc n) [] i = refl
get_dropped (suc n) (y ∷ xs) i = let k : suc (n + i) ≡ suc n + i = omega arith in get_dropped n xs i ∙ ap (slice_get (y ∷ xs)) k

-- what is left of a list, by its first element and the rest
pub first_dropped : {X : Type 0} (n : ℕ) (xs : List X) (x : X) (rest : List X) → drop n xs ≡ x ∷ rest → slice_get xs n ≡ Some x
first_dropped n xs x rest e =
    let k : n ≡ n + 0 = omega arith in
    ap (slice_get xs) k ∙ (sym (get_dropped n xs 0) ∙ ap (λ ys. slice_get ys 0) e)

-- If a list without its first items is an item and a rest, dropping one item more leaves that rest.
pub rest_dropped : {X : Type 0} (n : ℕ) (xs : List X) (x : X) (rest : List X) → drop n xs ≡ x ∷ rest → drop (n + 1) xs ≡ rest
rest_dropped zero xs x rest e = ap (λ ys. drop 1 ys) e
rest_dropped (suc n) [] x rest e = cc
rest_dropped (suc n) (y ∷ xs) x rest e = let k : suc n + 1 ≡ suc (n + 1) = omega arith in ap (λ m. drop m (y ∷ xs)) k ∙ rest_dropped n xs x rest e

-- a part from the front, by its length
pub begins_take : {X : Type 0} (front whole : List X) → Begins front whole → front ≡ take (length front) whole
begins_take front whole b = sym (ap (take (length front)) b.1 ∙ take_at front b.0 (length front) refl)

-- A list that begins another one is no longer than that one.
pub begins_short : {X : Type 0} (front whole : List X) → Begins front whole → length front ≤ length whole
begins_short front whole b = let h : length front ≡ min (length front) (length whole) = ap length (begins_take front whole b) ∙ length-take (length front) whole in omega (arith, h)
