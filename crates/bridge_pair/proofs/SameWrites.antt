-- Lists of writes are the same where they have as many, and the same one at each place; and how a list is copied.
use Rattle.std.proofs.Common.{◌≡◌, ◌∙◌, ℕ, zero, suc, ◌+◌, ◌<◌, List, [], ◌∷◌, ◌++◌, Some, length, get_or, remove, take, slice_get, ap, refl, subst, sym, arith}
use Rattle.std.proofs.lemmas.List.{take_more}
use Rattle.std.proofs.lemmas.Option.{get_or_from_slice_get, slice_get_within}

-- Two lists of one length that have the same item at each place are equal.
pub same_lists : {X : Type 0} (xs ys : List X) → length xs ≡ length ys → ((k : ℕ) → k < length xs → slice_get xs k ≡ slice_get ys k) → xs ≡ ys
same_lists [] [] count each = refl
same_lists [] (y ∷ ys) count each = absurd (omega arith)
same_lists (x ∷ xs) [] count each = absurd (omega arith)
same_lists (x ∷ xs) (y ∷ ys) count each =
    let found : Some x ≡ Some y = each 0 (omega arith) in
    let first : x ≡ y = cc found in
    let rest : xs ≡ ys = same_lists xs ys (omega arith) (λ k less. each (suc k) (omega (arith, less))) in
    cc

-- one more write of a list that is copied from its front
pub one_more : {X : Type 0} (xs ys : List X) (k : ℕ) (x y : X) → ys ≡ take k xs → slice_get xs k ≡ Some x → y ≡ x → ys ++ y ∷ [] ≡ take (k + 1) xs
one_more xs ys k x y so_far got same =
    let more = take_more xs k x (slice_get_within xs k x got) in
    let found : get_or xs k x ≡ x = get_or_from_slice_get xs k x x got in
    cc

-- Two lists of one length that have the same item at each place, counted from 0 on in both, are equal.
pub run_is_whole : {X : Type 0} (xs ys : List X) → length xs ≡ length ys → ((k : ℕ) → k < length xs → slice_get xs (0 + k) ≡ slice_get ys (0 + k)) → xs ≡ ys
run_is_whole xs ys count each =
    same_lists xs ys count (λ k less. let at : 0 + k ≡ k = omega arith in subst (λ k. slice_get xs k ≡ slice_get ys k) at (each k less))

-- the item after the first ones of a list
next_of : {X : Type 0} (x : X) (xs : List X) (n k : ℕ) → n ≡ suc k → slice_get (x ∷ xs) n ≡ slice_get xs k
next_of x xs n k is = ap (slice_get (x ∷ xs)) is

-- A list without one item is another where the runs before and after that item are the same.
pub same_without : {X : Type 0} (xs ys : List X) (place : ℕ) → place < length xs → length ys + 1 ≡ length xs
    → ((k : ℕ) → k < place → slice_get xs k ≡ slice_get ys k) → ((k : ℕ) → place + k < length ys → slice_get xs (place + 1 + k) ≡ slice_get ys (place + k)) → remove xs place ≡ ys
same_without [] ys place within all before after = absurd (omega (arith, within))
same_without (x ∷ xs) ys zero within all before after =
    same_lists xs ys (omega (arith, all))
    (λ k less.
    let at : 0 + k ≡ k = omega arith in
    sym (next_of x xs (0 + 1 + k) k (omega arith)) ∙ after k (omega (arith, less, all)) ∙ ap (slice_get ys) at)
same_without (x ∷ xs) [] (suc place) within all before after = absurd (omega (arith, within, all))
same_without (x ∷ xs) (y ∷ ys) (suc place) within all before after =
    let found : Some x ≡ Some y = before 0 (omega arith) in
    let first : x ≡ y = cc found in
    let others : remove xs place ≡ ys = same_without xs ys place (omega (arith, within)) (omega (arith, all)) (λ k less. before (suc k) (omega (arith, less)))
    (λ k less.
    sym (next_of x xs (suc place + 1 + k) (place + 1 + k) (omega arith)) ∙ after k (omega (arith, less)) ∙ next_of y ys (suc place + k) (place + k) (omega arith)) in
    cc

-- what stands after an item, once it is removed
pub after_removed : {X : Type 0} (xs : List X) (place k : ℕ) → place < length xs → slice_get xs (place + 1 + k) ≡ slice_get (remove xs place) (place + k)
after_removed [] place k within = absurd (omega (arith, within))
after_removed (x ∷ xs) zero k within =
    let at : k ≡ 0 + k = omega arith in
    next_of x xs (0 + 1 + k) k (omega arith) ∙ ap (slice_get xs) at
after_removed (x ∷ xs) (suc place) k within =
    next_of x xs (suc place + 1 + k) (place + 1 + k) (omega arith) ∙ after_removed xs place k (omega (arith, within)) ∙ sym (next_of x (remove xs place) (suc place + k) (place + k) (omega arith))
