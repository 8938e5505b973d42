-- What a push and a taking do to the counts beside a list of writes.
use Rattle.std.proofs.Common.{◌≡◌, ◌≢◌, ℕ, ◌<◌, ◌≤◌, ◌+◌, ◌-◌, ◌⊎◌, inl, inr, Bool, true, false, cond, Option, ◌||◌, nat_lt, List, [], ◌∷◌, length, get_or, set, Some, slice_get, refl, sym, ap, subst, ◌∙◌, arith, zero-add, length-set, get_or-set_same, get_or-set_other}
use Rattle.std.specs.List.{list_any, count_by, remove}
use Rattle.std.proofs.lemmas.Bool.{lt-ltb, eq-eqb, ne_eqb, cases_eq}
use Rattle.std.proofs.lemmas.List.Sums.{sum_by-cons, sum_by-remove}
use Rattle.std.proofs.lemmas.List.Edits.{length-remove}
use Rattle.std.proofs.lemmas.Option.{slice_get_within, get_or_from_slice_get}
use Rattle.order_rules.specs.Order.{Order}
use Rattle.posted_queue.specs.Counts.{is_of_class, IsCounted}
use Rattle.posted_queue.specs.Rows.{is_held_back}

-- some element passes if and only if their count isn't 0
pub list_any-count_by : {X : Type 0} (p : X → Bool) (xs : List X) → nat_lt 0 (count_by p xs) ≡ list_any p xs
list_any-count_by p [] = refl
list_any-count_by p (x ∷ xs) = ap (nat_lt 0) (sum_by-cons (λ y. cond (p y) 1 0) x xs) ∙ more (p x) (count_by p xs) (list_any p xs) (list_any-count_by p xs)
  where
    more : (b : Bool) (n : ℕ) (rest : Bool) → nat_lt 0 n ≡ rest → nat_lt 0 (cond b 1 0 + n) ≡ (b || rest)
    more true n rest e = lt-ltb 0 (1 + n) (omega arith)
    more false n rest e = rw zero-add e

-- and no more where it is taken out
pub count_by-remove : {X : Type 0} (p : X → Bool) (xs : List X) (place : ℕ) (x : X) → slice_get xs place ≡ Some x → count_by p (remove xs place) + cond (p x) 1 0 ≡ count_by p xs
count_by-remove p xs place x at =
    let within : place < length xs = slice_get_within xs place x at in
    let read : get_or xs place x ≡ x = get_or_from_slice_get xs place x x at in
    subst (λ y. count_by p (remove xs place) + cond (p y) 1 0 ≡ count_by p xs) read (sum_by-remove (λ y. cond (p y) 1 0) xs place x within)

-- a write that is taken out was counted among those of its class
pub counted-taken : {W : Type 0} (order : W → Order) (writes : List W) (len : ℕ) (tally : List ℕ) (place : ℕ) (write : W) → IsCounted order writes len tally → slice_get writes place ≡ Some write → (order write).class < 8 → 1 ≤ get_or tally (order write).class 0
counted-taken order writes len tally place write counted at small =
    let of_class : is_of_class order (order write).class write ≡ true = eq-eqb _ _ refl in
    let taken : count_by (is_of_class order (order write).class) (remove writes place) + cond (is_of_class order (order write).class write) 1 0 ≡ count_by (is_of_class order (order write).class) writes =
    count_by-remove (is_of_class order (order write).class) writes place write at in
    let one : count_by (is_of_class order (order write).class) (remove writes place) + 1 ≡ count_by (is_of_class order (order write).class) writes =
    subst (λ b. count_by (is_of_class order (order write).class) (remove writes place) + cond b 1 0 ≡ count_by (is_of_class order (order write).class) writes) of_class taken in
    let tallied : get_or tally (order write).class 0 ≡ count_by (is_of_class order (order write).class) writes = counted.tally_is (order write).class small in
    omega arith

-- the counts of the writes that stay
pub counted-remove : {W : Type 0} (order : W → Order) (writes : List W) (len : ℕ) (tally : List ℕ) (place : ℕ) (write : W) → IsCounted order writes len tally → slice_get writes place ≡ Some write → (order write).class < 8 → IsCounted order (remove writes place) (len - 1) (set tally (order write).class (get_or tally (order write).class 0 - 1))
counted-remove order writes len tally place write counted at small = record {
  len_is = (let e = length-remove writes place (slice_get_within writes place write at) in omega (arith, e, counted.len_is));
  places = length-set tally (order write).class (get_or tally (order write).class 0 - 1) ∙ counted.places;
  tally_is = λ class below. of_class class below (cases_eq class (order write).class);
}
  where
    taken : (class : ℕ) → count_by (is_of_class order class) (remove writes place) + cond (is_of_class order class write) 1 0 ≡ count_by (is_of_class order class) writes
    taken class = count_by-remove (is_of_class order class) writes place write at

    one_less : get_or (set tally (order write).class (get_or tally (order write).class 0 - 1)) (order write).class 0 ≡ count_by (is_of_class order (order write).class) (remove writes place)
    one_less =
        let is_of_its_own : is_of_class order (order write).class write ≡ true = eq-eqb _ _ refl in
        let one : count_by (is_of_class order (order write).class) (remove writes place) + 1 ≡ count_by (is_of_class order (order write).class) writes =
        subst (λ b. count_by (is_of_class order (order write).class) (remove writes place) + cond b 1 0 ≡ count_by (is_of_class order (order write).class) writes) is_of_its_own (taken (order write).class) in
        let tallied : get_or tally (order write).class 0 ≡ count_by (is_of_class order (order write).class) writes = counted.tally_is (order write).class small in
        get_or-set_same tally (order write).class (get_or tally (order write).class 0 - 1) 0 (let eight = counted.places in omega arith)
        ∙ (omega arith)

    of_class : (class : ℕ) → class < 8 → (class ≡ (order write).class) ⊎ (class ≢ (order write).class) → get_or (set tally (order write).class (get_or tally (order write).class 0 - 1)) class 0 ≡ count_by (is_of_class order class) (remove writes place)
    of_class class below (inl same) = subst (λ at_class. get_or (set tally (order write).class (get_or tally (order write).class 0 - 1)) at_class 0 ≡ count_by (is_of_class order at_class) (remove writes place)) (sym same) one_less
    of_class class below (inr other) =
        get_or-set_other tally (order write).class class (get_or tally (order write).class 0 - 1) 0 other
        ∙ counted.tally_is class below
        ∙ (let not_of_class : is_of_class order class write ≡ false = ne_eqb (order write).class class (λ e. other (sym e)) in
        let same_count : count_by (is_of_class order class) (remove writes place) + 0 ≡ count_by (is_of_class order class) writes =
        subst (λ b. count_by (is_of_class order class) (remove writes place) + cond b 1 0 ≡ count_by (is_of_class order class) writes) not_of_class (taken class) in
        omega arith)

-- a write waits for a class where the tally has one of it
pub tally-is_held_back : {W : Type 0} (order : W → Order) (writes : List W) (len : ℕ) (tally : List ℕ) (waits_for : Option ℕ) (class : ℕ) → IsCounted order writes len tally → waits_for ≡ Some class → class < 8 → nat_lt 0 (get_or tally class 0) ≡ is_held_back order waits_for writes
tally-is_held_back order writes len tally waits_for class counted waits small =
    ap (nat_lt 0) (counted.tally_is class small)
    ∙ list_any-count_by (is_of_class order class) writes
    ∙ sym (ap (λ waited. is_held_back order waited writes) waits)
