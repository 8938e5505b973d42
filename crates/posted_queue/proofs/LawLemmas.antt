-- The laws of landing, and what a landing leaves of a part of the writes in flight.
use Rattle.std.proofs.Common.{◌≡◌, ◌≢◌, ◌↔◌, inl, inr, ⊎_elim, ℕ, ◌<◌, ◌≤◌, suc, zero, Bool, true, false, cond, ◌==◌, ◌&&◌, ◌||◌, not, List, [], ◌∷◌, ◌++◌, IsTrue, length, get_or, take, drop, map, Some, slice_get, slice_index, refl, sym, ap, ◌∙◌, arith}
use Rattle.std.specs.List.{All, list_all, filter, remove}
use Rattle.std.proofs.lemmas.Bool.{and_parts, eq-eqb, ne_eqb, lt-ltb, le-ltb, cases_lt, cases_eq, false≢true}
use Rattle.std.proofs.lemmas.List.{take_at, get_or-map, length-map, length-take-le}
use Rattle.std.proofs.lemmas.List.Elements.{filter-append, All-nil, All-cons, All-head, All-tail, All-take, All-get_or}
use Rattle.std.proofs.lemmas.Option.{none-some, same_Some, slice_get-get_or, slice_get_past}
use Rattle.order_rules.specs.Order.{Order, relaxed, passes, lands_behind, may_land}
use Rattle.posted_queue.specs.Laws.{IsRelaxedOrFirstOfClass, LandsAmongKept, lands_by_kind}
use Rattle.posted_queue.proofs.LandingLemmas.{may_land-map}

-- the element after a list's front
slice_get-at : {X : Type 0} (before : List X) (item : X) (after : List X) → slice_get (before ++ item ∷ after) (length before) ≡ Some item
slice_get-at [] item after = refl
slice_get-at (x ∷ before) item after = slice_get-at before item after

-- the write after those before it may land where it passes each of them
pub may_land-split : (before after : List Order) (write : Order) → may_land (before ++ write ∷ after) (length before) ≡ list_all (passes write) before
may_land-split before after write =
    ap (λ found. lands_behind found (take (length before) (before ++ write ∷ after))) (slice_get-at before write after)
    ∙ ap (list_all (passes write)) (take_at before (write ∷ after) (length before) refl)

-- the same, if each write has its order by `order`
pub may_land-map_split : {W : Type 0} (order : W → Order) (before after : List W) (write : W) → may_land (map order (before ++ write ∷ after)) (length before) ≡ list_all (λ earlier. passes (order write) (order earlier)) before
may_land-map_split order before after write =
    may_land-map order (before ++ write ∷ after) (length before) write (slice_get-at before write after)
    ∙ ap (list_all (λ earlier. passes (order write) (order earlier))) (take_at before (write ∷ after) (length before) refl)

-- each of a list has another class than the write where it passes each and isn't relaxed
other_classes : (write : Order) (before : List Order) → list_all (λ earlier. not (write.class == earlier.class)) before ≡ true → All (λ earlier. earlier.class ≢ write.class) before
other_classes write [] all = All-nil (λ (earlier : Order). earlier.class ≢ write.class)
other_classes write (x ∷ xs) all =
    let parts : (not (write.class == x.class) ≡ true) × (list_all (λ earlier. not (write.class == earlier.class)) xs ≡ true) = and_parts _ _ all in
    All-cons (λ (earlier : Order). earlier.class ≢ write.class) x xs
    (λ (e : x.class ≡ write.class). let yes : (write.class == x.class) ≡ true = eq-eqb _ _ (sym e) in false≢true (ap not (sym yes) ∙ parts.0))
    (other_classes write xs parts.1)

passes_others : (write : Order) (before : List Order) → All (λ earlier. earlier.class ≢ write.class) before → list_all (λ earlier. not (write.class == earlier.class)) before ≡ true
passes_others write [] all = refl
passes_others write (x ∷ xs) all =
    let other : x.class ≢ write.class = All-head (λ (earlier : Order). earlier.class ≢ write.class) x xs all in
    ap (λ b. not b && list_all (λ earlier. not (write.class == earlier.class)) xs) (ne_eqb write.class x.class (λ e. other (sym e)))
    ∙ passes_others write xs (All-tail (λ (earlier : Order). earlier.class ≢ write.class) x xs all)

-- a relaxed write passes each
passes_when_relaxed : (write : Order) (before : List Order) → write.kind ≡ relaxed → list_all (passes write) before ≡ true
passes_when_relaxed write [] is_relaxed = refl
passes_when_relaxed write (x ∷ xs) is_relaxed =
    ap (λ b. (b || not (write.class == x.class)) && list_all (passes write) xs) (eq-eqb write.kind relaxed is_relaxed) ∙ passes_when_relaxed write xs is_relaxed

-- one that isn't relaxed goes by the classes
passes_when_strict : (write : Order) (before : List Order) → (write.kind == relaxed) ≡ false → list_all (passes write) before ≡ list_all (λ earlier. not (write.class == earlier.class)) before
passes_when_strict write before is_strict = ap (λ b. list_all (λ earlier. b || not (write.class == earlier.class)) before) is_strict

-- a write may land if and only if it is relaxed or none before it has its class
pub may_land-relaxed_or_first_of_class : (before after : List Order) (write : Order) → IsTrue (may_land (before ++ write ∷ after) (length before)) ↔ IsRelaxedOrFirstOfClass before write
may_land-relaxed_or_first_of_class before after write = (forth, back)
  where
    forth : IsTrue (may_land (before ++ write ∷ after) (length before)) → IsRelaxedOrFirstOfClass before write
    forth lands =
        ⊎_elim
        (λ (is_relaxed : write.kind ≡ relaxed). inl is_relaxed)
        (λ (is_other : write.kind ≢ relaxed). inr (other_classes write before (sym (passes_when_strict write before (ne_eqb write.kind relaxed is_other)) ∙ sym (may_land-split before after write) ∙ lands)))
        (cases_eq write.kind relaxed)

    back : IsRelaxedOrFirstOfClass before write → IsTrue (may_land (before ++ write ∷ after) (length before))
    back free =
        may_land-split before after write
        ∙ ⊎_elim
        (λ (is_relaxed : write.kind ≡ relaxed). passes_when_relaxed write before is_relaxed)
        (λ (others : All (λ earlier. earlier.class ≢ write.class) before).
        ⊎_elim
        (λ (is_relaxed : write.kind ≡ relaxed). passes_when_relaxed write before is_relaxed)
        (λ (is_other : write.kind ≢ relaxed). passes_when_strict write before (ne_eqb write.kind relaxed is_other) ∙ passes_others write before others)
        (cases_eq write.kind relaxed))
        free

-- among writes of its own class a write passes each where it is relaxed or there is none
passes_own_class : (write : Order) (before : List Order) → All (λ earlier. earlier.class ≡ write.class) before → list_all (passes write) before ≡ (write.kind == relaxed || length before == 0)
passes_own_class write before same = by_kind (write.kind == relaxed) before same
  where
    by_kind : (b : Bool) (before : List Order) → All (λ earlier. earlier.class ≡ write.class) before → list_all (λ earlier. b || not (write.class == earlier.class)) before ≡ (b || length before == 0)
    by_kind true [] all = refl
    by_kind true (x ∷ xs) all = by_kind true xs (All-tail (λ (earlier : Order). earlier.class ≡ write.class) x xs all)
    by_kind false [] all = refl
    by_kind false (x ∷ xs) all =
        let own : x.class ≡ write.class = All-head (λ (earlier : Order). earlier.class ≡ write.class) x xs all in
        ap (λ b. not b && list_all (λ earlier. not (write.class == earlier.class)) xs) (eq-eqb write.class x.class (sym own))
        ∙ sym (ne_eqb (length (x ∷ xs)) 0 (λ e. omega arith))

-- writes of one class land by their kinds alone
pub may_land-one_class : (orders : List Order) (class place : ℕ) → All (λ order. order.class ≡ class) orders → may_land orders place ≡ lands_by_kind (map (λ order. order.kind) orders) place
may_land-one_class orders class place same = ⊎_elim within past (cases_lt place (length orders))
  where
    past : length orders ≤ place → may_land orders place ≡ lands_by_kind (map (λ order. order.kind) orders) place
    past far =
        ap (λ found. lands_behind found (take place orders)) (slice_get_past orders place far)
        ∙ sym (ap (λ b. b && (slice_index (map (λ order. order.kind) orders) place == relaxed || place == 0))
        (le-ltb place (length (map (λ order. order.kind) orders)) (omega (arith, length-map orders (λ order. order.kind)))))

    within : place < length orders → may_land orders place ≡ lands_by_kind (map (λ order. order.kind) orders) place
    within inside =
        let nobody : Order = record { kind = 0; class = 0 } in
        let write = get_or orders place nobody in
        let own : write.class ≡ class = All-get_or (λ (order : Order). order.class ≡ class) orders place nobody inside same in
        let before : All (λ earlier. earlier.class ≡ write.class) (take place orders) =
        All-take (λ (earlier : Order). earlier.class ≡ write.class) place orders (λ k d low. same k d low ∙ sym own) in
        ap (λ found. lands_behind found (take place orders)) (slice_get-get_or orders place nobody inside)
        ∙ passes_own_class write (take place orders) before
        ∙ ap (λ n. write.kind == relaxed || n == 0) (length-take-le place orders (omega arith))
        ∙ ap (λ kind. kind == relaxed || place == 0) (sym (get_or-map (λ order. order.kind) orders place nobody 0 inside))
        ∙ sym (ap (λ b. b && (slice_index (map (λ order. order.kind) orders) place == relaxed || place == 0))
        (lt-ltb place (length (map (λ order. order.kind) orders)) (omega (arith, length-map orders (λ order. order.kind)))))

-- a list is what stands before a place, the item there, and what stands after it
pub split-at_place : {X : Type 0} (items : List X) (place : ℕ) (item : X) → slice_get items place ≡ Some item → (items ≡ take place items ++ item ∷ drop (suc place) items) × (length (take place items) ≡ place)
split-at_place [] place item at = absurd (none-some item at)
split-at_place (x ∷ xs) zero item at = (ap (λ first. first ∷ xs) (same_Some x item at), refl)
split-at_place (x ∷ xs) (suc place) item at =
    let rest : (xs ≡ take place xs ++ item ∷ drop (suc place) xs) × (length (take place xs) ≡ place) = split-at_place xs place item at in
    (ap (λ others. x ∷ others) rest.0, ap suc rest.1)

-- what is left of a list without the item after those before it
pub remove-split : {X : Type 0} (before : List X) (item : X) (after : List X) → remove (before ++ item ∷ after) (length before) ≡ before ++ after
remove-split [] item after = refl
remove-split (x ∷ before) item after = ap (λ rest. x ∷ rest) (remove-split before item after)

-- the part of a list that is kept, if the item is one of it
pub filter-split : {X : Type 0} (kept : X → Bool) (before : List X) (item : X) (after : List X) → IsTrue (kept item) → filter kept (before ++ item ∷ after) ≡ filter kept before ++ item ∷ filter kept after
filter-split kept before item after keeps = rw (filter-append kept before (item ∷ after), keeps) refl

-- where the item is none of it, the part that is kept stays as it was when the item is taken out
pub filter-split_other : {X : Type 0} (kept : X → Bool) (before : List X) (item : X) (after : List X) → kept item ≡ false → filter kept (remove (before ++ item ∷ after) (length before)) ≡ filter kept (before ++ item ∷ after)
filter-split_other kept before item after left_out = rw (remove-split before item after, filter-append kept before (item ∷ after), filter-append kept before after, left_out) refl

-- what all pass, the kept ones pass
list_all-filter : {X : Type 0} (p kept : X → Bool) (xs : List X) → list_all p xs ≡ true → list_all p (filter kept xs) ≡ true
list_all-filter p kept [] all = refl
list_all-filter p kept (x ∷ xs) all =
    let parts : (p x ≡ true) × (list_all p xs ≡ true) = and_parts _ _ all in
    elim (kept x) as (λ k. list_all p (cond k (x ∷ filter kept xs) (filter kept xs)) ≡ true) [ true ↦ ap (λ b. b && list_all p (filter kept xs)) parts.0 ∙ list_all-filter p kept xs parts.1 | false ↦ list_all-filter p kept xs parts.1 ]

-- a write that may land among all may land among those that are kept
pub may_land-among_kept : {W : Type 0} (order : W → Order) (kept : W → Bool) (before after : List W) (write : W) → IsTrue (kept write) → IsTrue (may_land (map order (before ++ write ∷ after)) (length before)) → LandsAmongKept order kept before write after
may_land-among_kept order kept before after write keeps lands = record {
  stands = stands;
  lands = rw stands (may_land-map_split order (filter kept before) (filter kept after) write ∙ list_all-filter (λ earlier. passes (order write) (order earlier)) kept before (sym (may_land-map_split order before after write) ∙ lands));
  leaves = rw (remove-split before write after, stands, remove-split (filter kept before) write (filter kept after)) (filter-append kept before after);
}
  where
    stands : filter kept (before ++ write ∷ after) ≡ filter kept before ++ write ∷ filter kept after
    stands = filter-split kept before write after keeps
