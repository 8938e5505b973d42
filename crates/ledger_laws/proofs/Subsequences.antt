-- Subsequences of a list, and lists in which each item is before all later ones.
use Rattle.std.proofs.Common.{◌≡◌, Bool, true, false, List, [], ◌∷◌, ◌++◌, Option, Some, None, map, refl, sym, ap, ◌∙◌, subst, inl, inr, ◌⊎◌}
use Rattle.std.specs.Prelude.{if◌then◌else◌}
use Rattle.std.specs.List.{AllByRecursion, cons_option, filter, filter_map, find}
use Rattle.ledger_laws.specs.Paths.{Rises, StandsIn}

-- the first list is the second one without some of its items
pub data IsPartOf {A : Type 0} : List A → List A → Type 0 where
  Ends : IsPartOf [] []
  Drops : {xs ys : List A} (y : A) → IsPartOf xs ys → IsPartOf xs (y ∷ ys)
  Takes : {xs ys : List A} (x : A) → IsPartOf xs ys → IsPartOf (x ∷ xs) (x ∷ ys)

module _ {A : Type 0} where
  pub part-whole : (xs : List A) → IsPartOf xs xs
  part-whole [] = Ends
  part-whole (x ∷ xs) = Takes x (part-whole xs)

  pub part-none : (xs : List A) → IsPartOf [] xs
  part-none [] = Ends
  part-none (x ∷ xs) = Drops x (part-none xs)

  pub part-append : {xs ys us vs : List A} → IsPartOf xs ys → IsPartOf us vs → IsPartOf (xs ++ us) (ys ++ vs)
  part-append Ends more = more
  part-append (Drops y part) more = Drops y (part-append part more)
  part-append (Takes x part) more = Takes x (part-append part more)

  pub part-of_part : {ys zs : List A} → IsPartOf ys zs → (xs : List A) → IsPartOf xs ys → IsPartOf xs zs
  part-of_part Ends xs part = part
  part-of_part (Drops z whole) xs part = Drops z (part-of_part whole xs part)
  part-of_part (Takes z whole) xs (Drops y part) = Drops z (part-of_part whole xs part)
  part-of_part (Takes z whole) (x ∷ xs) (Takes y part) = Takes z (part-of_part whole xs part)

  pub part-filter : (test : A → Bool) {xs ys : List A} → IsPartOf xs ys → IsPartOf (filter test xs) (filter test ys)
  part-filter test Ends = Ends
  part-filter test (Drops {xs} {ys} y part) = by (test y) (part-filter test part)
    where
      by : (b : Bool) → IsPartOf (filter test xs) (filter test ys) → IsPartOf (filter test xs) (if b then y ∷ filter test ys else filter test ys)
      by true h = Drops y h
      by false h = h
  part-filter test (Takes {xs} {ys} x part) = by (test x) (part-filter test part)
    where
      by : (b : Bool) → IsPartOf (filter test xs) (filter test ys)
          → IsPartOf (if b then x ∷ filter test xs else filter test xs) (if b then x ∷ filter test ys else filter test ys)
      by true h = Takes x h
      by false h = h

  pub filter-part : (test : A → Bool) (xs : List A) → IsPartOf (filter test xs) xs
  filter-part test [] = Ends
  filter-part test (x ∷ xs) = by (test x) (filter-part test xs)
    where
      by : (b : Bool) → IsPartOf (filter test xs) xs → IsPartOf (if b then x ∷ filter test xs else filter test xs) (x ∷ xs)
      by true h = Takes x h
      by false h = Drops x h

  pub stands-part : (x : A) {xs ys : List A} → IsPartOf xs ys → StandsIn x xs → StandsIn x ys
  stands-part x Ends h = h
  stands-part x (Drops y part) h = inr (stands-part x part h)
  stands-part x (Takes y part) (inl e) = inl e
  stands-part x (Takes y part) (inr h) = inr (stands-part x part h)

-- what holds of all items of a list
module _ {A : Type 0} (P : A → Type 0) where
  pub all-part : {xs ys : List A} → IsPartOf xs ys → AllByRecursion P ys → AllByRecursion P xs
  all-part Ends h = h
  all-part (Drops y part) h = all-part part h.1
  all-part (Takes x part) h = (h.0, all-part part h.1)

  pub all-append : (xs ys : List A) → AllByRecursion P xs → AllByRecursion P ys → AllByRecursion P (xs ++ ys)
  all-append [] ys h k = k
  all-append (x ∷ xs) ys h k = (h.0, all-append xs ys h.1 k)

  pub all-at : (x : A) (xs : List A) → AllByRecursion P xs → StandsIn x xs → P x
  all-at x [] h s = absurd s
  all-at x (y ∷ ys) h (inl e) = subst P (sym e) h.0
  all-at x (y ∷ ys) h (inr s) = all-at x ys h.1 s

  all-both : (Q : A → Type 0) (xs : List A) → AllByRecursion P xs → AllByRecursion Q xs → AllByRecursion (λ x. P x × Q x) xs
  all-both Q [] h k = tt
  all-both Q (x ∷ xs) h k = ((h.0, k.0), all-both Q xs h.1 k.1)

  pub all-unmapped : {B : Type 0} (f : B → A) (xs : List B) → AllByRecursion P (map f xs) → AllByRecursion (λ x. P (f x)) xs
  all-unmapped f [] h = tt
  all-unmapped f (x ∷ xs) h = (h.0, all-unmapped f xs h.1)

  pub all-mapped : {B : Type 0} (f : B → A) (xs : List B) → AllByRecursion (λ x. P (f x)) xs → AllByRecursion P (map f xs)
  all-mapped f [] h = tt
  all-mapped f (x ∷ xs) h = (h.0, all-mapped f xs h.1)

-- If one property implies another, a list whose items all have the first has the second of all of them.
pub all-weaker : {A : Type 0} (P Q : A → Type 0) → ((x : A) → P x → Q x) → (xs : List A) → AllByRecursion P xs → AllByRecursion Q xs
all-weaker P Q weaker [] h = tt
all-weaker P Q weaker (x ∷ xs) h = (weaker x h.0, all-weaker P Q weaker xs h.1)

-- what rises
module _ {A : Type 0} (R : A → A → Type 0) where
  pub rises-part : {xs ys : List A} → IsPartOf xs ys → Rises R ys → Rises R xs
  rises-part Ends h = h
  rises-part (Drops y part) h = rises-part part h.1
  rises-part (Takes x part) h = (all-part (R x) part h.0, rises-part part h.1)

  pub rises-unmapped : {B : Type 0} (f : B → A) (xs : List B) → Rises R (map f xs) → Rises (λ x y. R (f x) (f y)) xs
  rises-unmapped f [] h = tt
  rises-unmapped f (x ∷ xs) h = (all-unmapped (R (f x)) f xs h.0, rises-unmapped f xs h.1)

  pub rises-mapped : {B : Type 0} (f : B → A) (xs : List B) → Rises (λ x y. R (f x) (f y)) xs → Rises R (map f xs)
  rises-mapped f [] h = tt
  rises-mapped f (x ∷ xs) h = (all-mapped (R (f x)) f xs h.0, rises-mapped f xs h.1)

  pub rises-both : (S : A → A → Type 0) (xs : List A) → Rises R xs → Rises S xs → Rises (λ x y. R x y × S x y) xs
  rises-both S [] h k = tt
  rises-both S (x ∷ xs) h k = (all-both (R x) (S x) xs h.0 k.0, rises-both S xs h.1 k.1)

  -- of two items of a rising list one is before the other, or they are one
  pub compare-rises : (x y : A) (xs : List A) → Rises R xs → StandsIn x xs → StandsIn y xs → (x ≡ y) ⊎ (R x y ⊎ R y x)
  compare-rises x y [] h s t = absurd s
  compare-rises x y (z ∷ zs) h (inl e) (inl f) = inl (e ∙ sym f)
  compare-rises x y (z ∷ zs) h (inl e) (inr t) = inr (inl (subst (λ w. R w y) (sym e) (all-at (R z) y zs h.0 t)))
  compare-rises x y (z ∷ zs) h (inr s) (inl f) = inr (inr (subst (λ w. R w x) (sym f) (all-at (R z) x zs h.0 s)))
  compare-rises x y (z ∷ zs) h (inr s) (inr t) = compare-rises x y zs h.1 s t

-- The image of an item of a list stands in the list of the images.
pub stands-map : {A B : Type 0} (f : A → B) (x : A) (xs : List A) → StandsIn x xs → StandsIn (f x) (map f xs)
stands-map f x [] s = absurd s
stands-map f x (y ∷ ys) (inl e) = inl (ap f e)
stands-map f x (y ∷ ys) (inr s) = inr (stands-map f x ys s)

-- What stands in the list of the images is the image of an item of the list.
pub stands-unmap : {A B : Type 0} (f : A → B) (y : B) (xs : List A) → StandsIn y (map f xs) → (x : A) × (StandsIn x xs × (f x ≡ y))
stands-unmap f y [] s = absurd s
stands-unmap f y (x ∷ xs) (inl e) = (x, (inl refl, sym e))
stands-unmap f y (x ∷ xs) (inr s) = let found = stands-unmap f y xs s in (found.0, (inr found.1.0, found.1.1))

-- An item that stands in a list stands in that list with more items after it.
pub stands-append : {A : Type 0} (x : A) (xs ys : List A) → StandsIn x xs → StandsIn x (xs ++ ys)
stands-append x [] ys s = absurd s
stands-append x (z ∷ xs) ys (inl e) = inl e
stands-append x (z ∷ xs) ys (inr s) = inr (stands-append x xs ys s)

-- The images of a subsequence of a list are a subsequence of the list's images.
pub part-map : {A B : Type 0} (f : A → B) {xs ys : List A} → IsPartOf xs ys → IsPartOf (map f xs) (map f ys)
part-map f Ends = Ends
part-map f (Drops y part) = Drops (f y) (part-map f part)
part-map f (Takes x part) = Takes (f x) (part-map f part)

-- A list of those that a function gives of the items

module _ {A B : Type 0} (give : A → Option B) (P : A → Type 0) (Q : B → Type 0) (keeps : (x : A) (y : B) → P x → give x ≡ Some y → Q y) where
  pub all-filter_map : (xs : List A) → AllByRecursion P xs → AllByRecursion Q (filter_map give xs)
  all-filter_map [] h = tt
  all-filter_map (x ∷ xs) h = by (give x) refl (all-filter_map xs h.1)
    where
      by : (o : Option B) → give x ≡ o → AllByRecursion Q (filter_map give xs) → AllByRecursion Q (cons_option o (filter_map give xs))
      by None e rest = rest
      by (Some y) e rest = (keeps x y h.0 e, rest)

-- where what it gives of a later item is after what it gives of an earlier one, they rise as the items do
module _ {A B : Type 0} (give : A → Option B) (P : A → Type 0) (R : A → A → Type 0) (S : B → B → Type 0)
    (grows : (x z : A) (y w : B) → P x → P z → R x z → give x ≡ Some y → give z ≡ Some w → S y w) where
  all_after : (x : A) (y : B) → P x → give x ≡ Some y → (xs : List A) → AllByRecursion P xs → AllByRecursion (R x) xs → AllByRecursion (S y) (filter_map give xs)
  all_after x y p e [] h k = tt
  all_after x y p e (z ∷ zs) h k = by (give z) refl (all_after x y p e zs h.1 k.1)
    where
      by : (o : Option B) → give z ≡ o → AllByRecursion (S y) (filter_map give zs) → AllByRecursion (S y) (cons_option o (filter_map give zs))
      by None f rest = rest
      by (Some w) f rest = (grows x z y w p h.0 k.0 e f, rest)

  pub rises-filter_map : (xs : List A) → AllByRecursion P xs → Rises R xs → Rises S (filter_map give xs)
  rises-filter_map [] h k = tt
  rises-filter_map (x ∷ xs) h k = by (give x) refl (rises-filter_map xs h.1 k.1)
    where
      by : (o : Option B) → give x ≡ o → Rises S (filter_map give xs) → Rises S (cons_option o (filter_map give xs))
      by None e rest = rest
      by (Some y) e rest = (all_after x y h.0 e xs h.1 k.0, rest)

-- what is found passes the test, and stands in the list of those that do
module _ {A : Type 0} (test : A → Bool) where
  pub found-stands : (xs : List A) (x : A) → find test xs ≡ Some x → (test x ≡ true) × StandsIn x xs
  found-stands [] x e = absurd (none_some x e)
    where
      none_some : (y : A) → None ≡ Some y → ⊥
      none_some y f = cc
  found-stands (y ∷ ys) x e = by (test y) refl e (found-stands ys x)
    where
      same : (w : A) → Some y ≡ Some w → y ≡ w
      same w f = cc

      by : (b : Bool) → test y ≡ b → (if b then Some y else find test ys) ≡ Some x → (find test ys ≡ Some x → (test x ≡ true) × StandsIn x ys) → (test x ≡ true) × StandsIn x (y ∷ ys)
      by true f g rest = (subst (λ w. test w ≡ true) (same x g) f, inl (sym (same x g)))
      by false f g rest = let h = rest g in (h.0, inr h.1)

  pub stands-filter : (x : A) (xs : List A) → test x ≡ true → StandsIn x xs → StandsIn x (filter test xs)
  stands-filter x [] e s = absurd s
  stands-filter x (y ∷ ys) e (inl f) = subst (λ b. StandsIn x (if b then y ∷ filter test ys else filter test ys)) (sym (subst (λ w. test w ≡ true) f e)) (inl f)
  stands-filter x (y ∷ ys) e (inr s) = by (test y) (stands-filter x ys e s)
    where
      by : (b : Bool) → StandsIn x (filter test ys) → StandsIn x (if b then y ∷ filter test ys else filter test ys)
      by true h = inr h
      by false h = h
