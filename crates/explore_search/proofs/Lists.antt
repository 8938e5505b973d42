-- Lists that grow at their ends: what holds of all, of some and of all pairs of their items.
use Rattle.std.proofs.Common.{◌≡◌, ◌∙◌, ℕ, ◌+◌, ◌-◌, ◌<◌, ◌≤◌, List, [], ◌∷◌, ◌++◌, ap, arith, drop, get_or, inl, inr, length, refl, set, subst, sym, take}
use Rattle.std.proofs.lemmas.Bool.{cases_eq, cases_lt}
use Rattle.std.specs.List.{All, AllPairs, Any, insert}
use Rattle.std.proofs.lemmas.List.{get_or-append-add, get_or_append_left, get_or_at, get_or_default, get_or_read, get_or-set_other, get_or-set_same, length-append, length_push, length-set}
use Rattle.std.proofs.lemmas.List.Edits.{get_or-insert_above, get_or-insert_at, get_or-insert_below, length-insert}
use Rattle.std.proofs.lemmas.List.Elements.{All-append, All-cons, All-drop, All-take}

-- some item of a list is one of a longer list
pub any_longer : {X : Type 0} (P : X → Type 0) (xs ys : List X) → Any P xs → Any P (xs ++ ys)
any_longer P xs ys some =
    let size = length-append xs ys in
    (some.0, some.1, omega (arith, some.2), get_or_append_left xs ys some.1 some.0 some.2 ∙ some.3, some.4)

-- the last item is some item
pub any_last : {X : Type 0} (P : X → Type 0) (xs : List X) (x : X) → P x → Any P (xs ++ x ∷ [])
any_last P xs x is =
    let size = length_push xs x in
    (length xs, x, omega arith, get_or_at xs x [] x (length xs) refl, is)

-- what holds of some item makes another thing hold of it
pub any_weaker : {X : Type 0} (P Q : X → Type 0) (xs : List X) → ((x : X) → P x → Q x) → Any P xs → Any Q xs
any_weaker P Q xs so some = (some.0, some.1, some.2, some.3, so some.1 some.4)

-- some item, if all have another property too
pub any_of_all : {X : Type 0} (P A Q : X → Type 0) (xs : List X) → All A xs → ((x : X) → A x → P x → Q x) → Any P xs → Any Q xs
any_of_all P A Q xs all so some = (some.0, some.1, some.2, some.3, so some.1 (subst A some.3 (all some.0 some.1 some.2)) some.4)

-- the item at a place is some item
pub any_at : {X : Type 0} (P : X → Type 0) (xs : List X) (k : ℕ) (d : X) → k < length xs → P (get_or xs k d) → Any P xs
any_at P xs k d below is = (k, get_or xs k d, below, get_or_default xs k (get_or xs k d) d below, is)

-- no item is some item of an empty list
pub any_none : {X : Type 0} (P : X → Type 0) → Any P [] → ⊥
any_none P some = omega (arith, some.2)

-- what holds of the first items, and of the next, holds of one more
pub each_more : {X : Type 0} (P Q : X → Type 0) (xs : List X) (i : ℕ) (d : X) → i < length xs → ((x : X) → P x → Q x) →
    ((k : ℕ) (e : X) → k < i → P (get_or xs k e)) → Q (get_or xs i d) → (k : ℕ) (e : X) → k < i + 1 → Q (get_or xs k e)
each_more P Q xs i d below so before here k e within =
    elim (cases_lt k i) [
      | inl earlier ↦ so (get_or xs k e) (before k e earlier)
      | inr later ↦ (let same : i ≡ k = omega arith in
          subst Q (get_or_default xs k d e (omega arith)) (subst (λ (k : ℕ). Q (get_or xs k d)) same here))
    ]

-- what holds of all pairs holds where an item is put in, which stands in relation to those before it and after it
pub pairs_with_insert : {X : Type 0} (R : X → X → Type 0) (xs : List X) (p : ℕ) (y : X) → p ≤ length xs → AllPairs R xs →
    ((k : ℕ) (d : X) → k < p → R (get_or xs k d) y) → ((k : ℕ) (d : X) → p ≤ k → k < length xs → R y (get_or xs k d)) → AllPairs R (insert xs p y)
pairs_with_insert {X} R xs p y within pairs before after i j d lt below =
    let size = length-insert xs p y within in
    elim (cases_lt j p) [
      | inl j_before ↦ two (get_or-insert_below xs p y d i (omega arith) within) (get_or-insert_below xs p y d j j_before within) (pairs i j d lt (omega arith))
      | inr j_after ↦ elim (cases_lt p j) [
        | inl j_beyond ↦ (let j_is : (j - 1) + 1 ≡ j = omega arith in
            let at_j : get_or (insert xs p y) j d ≡ get_or xs (j - 1) d =
            subst (λ (n : ℕ). get_or (insert xs p y) n d ≡ get_or xs (j - 1) d) j_is (get_or-insert_above xs p y d (j - 1) (omega arith) within) in
            elim (cases_lt i p) [
              | inl i_before ↦ two (get_or-insert_below xs p y d i i_before within) at_j (pairs i (j - 1) d (omega arith) (omega arith))
              | inr i_after ↦ elim (cases_lt p i) [
                | inl i_beyond ↦ (let i_is : (i - 1) + 1 ≡ i = omega arith in
                    two (subst (λ (n : ℕ). get_or (insert xs p y) n d ≡ get_or xs (i - 1) d) i_is (get_or-insert_above xs p y d (i - 1) (omega arith) within)) at_j
                    (pairs (i - 1) (j - 1) d (omega arith) (omega arith)))
                | inr i_here ↦ (let i_is : p ≡ i = omega arith in
                    two (subst (λ (n : ℕ). get_or (insert xs p y) n d ≡ y) i_is (get_or-insert_at xs p y d within)) at_j (after (j - 1) d (omega arith) (omega arith)))
              ]
            ])
        | inr j_here ↦ (let j_is : p ≡ j = omega arith in
            two (get_or-insert_below xs p y d i (omega arith) within) (subst (λ (n : ℕ). get_or (insert xs p y) n d ≡ y) j_is (get_or-insert_at xs p y d within)) (before i d (omega arith)))
      ]
    ]
  where
    two : {a b c e : X} → a ≡ b → c ≡ e → R b e → R a c
    two {a} {b} {c} {e} p q r = subst (λ (a : X). R a c) (sym p) (subst (λ (c : X). R b c) (sym q) r)

-- what holds of all holds where one is put in of which it holds too
pub all_with_insert : {X : Type 0} (P : X → Type 0) (xs : List X) (p : ℕ) (y : X) → All P xs → P y → All P (insert xs p y)
all_with_insert P xs p y all is =
    All-append P (take p xs) (y ∷ drop p xs) (All-take P p xs all) (All-cons P y (drop p xs) is (All-drop P p xs all))

-- some item is some item where one is put in
pub any_with_insert : {X : Type 0} (P : X → Type 0) (xs : List X) (p : ℕ) (y : X) → p ≤ length xs → Any P xs → Any P (insert xs p y)
any_with_insert P xs p y within some =
    let size = length-insert xs p y within in
    elim (cases_lt some.0 p) [
      | inl before ↦ (some.0, some.1, omega (arith, some.2), get_or-insert_below xs p y some.1 some.0 before within ∙ some.3, some.4)
      | inr after ↦ (some.0 + 1, some.1, omega (arith, some.2), get_or-insert_above xs p y some.1 some.0 after within ∙ some.3, some.4)
    ]

-- and so is the one that is put in
pub any_inserted : {X : Type 0} (P : X → Type 0) (xs : List X) (p : ℕ) (y : X) → p ≤ length xs → P y → Any P (insert xs p y)
any_inserted P xs p y within is =
    let size = length-insert xs p y within in
    (p, y, omega arith, get_or-insert_at xs p y y within, is)

-- an item in another's place
pub any_with_set : {X : Type 0} (P : X → Type 0) (xs : List X) (p : ℕ) (x y : X) → p < length xs → x ≡ get_or xs p x → (P x → P y) → Any P xs → Any P (set xs p y)
any_with_set P xs p x y below is so some =
    let size = length-set xs p y in
    elim (cases_eq some.0 p) [
      | inl here ↦ (
        p,
        y,
        omega arith,
        get_or-set_same xs p y y below,
        so (subst P (sym some.3 ∙ ap (λ (k : ℕ). get_or xs k some.1) here ∙ sym (get_or_read xs p x below is some.1)) some.4),
      )
      | inr other ↦ (some.0, some.1, omega (arith, some.2), get_or-set_other xs p some.0 y some.1 other ∙ some.3, some.4)
    ]

-- an item that is put in another's place is some item
pub any_set : {X : Type 0} (P : X → Type 0) (xs : List X) (p : ℕ) (y : X) → p < length xs → P y → Any P (set xs p y)
any_set P xs p y below is =
    let size = length-set xs p y in
    (p, y, omega arith, get_or-set_same xs p y y below, is)

-- some item of a list is one where others stand before it
pub any_later : {X : Type 0} (P : X → Type 0) (xs ys : List X) → Any P ys → Any P (xs ++ ys)
any_later P xs ys some =
    let size = length-append xs ys in
    (length xs + some.0, some.1, omega (arith, some.2), get_or-append-add xs ys some.0 some.1 ∙ some.3, some.4)
