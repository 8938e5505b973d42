-- The pigeonhole principle for lists: a list is no longer than another where some item of the other has each of its
-- items and none has two.
use Rattle.std.proofs.Common.{◌≡◌, ◌∙◌, ℕ, ◌<◌, ◌≤◌, ◌⊎◌, inl, inr, List, [], ◌∷◌, ap, arith, get_or, length, subst, sym}
use Rattle.std.specs.List.{All, AllPairs, Any}
use Rattle.std.proofs.lemmas.Bool.{cases_lt}
use Rattle.std.proofs.lemmas.List.{get_or_default}
use Rattle.indexmap.proofs.IndexTableLemmas.Probe.{pigeonhole}

module _ {X Y : Type 0} (R : X → Y → Type 0) (xs : List X) (ys : List Y) (d : Y) (had : All (λ y. Any (λ x. R x y) xs) ys) where
  -- the place of one that has the item at a place
  abbrev place_of : (k : ℕ) → (k < length ys) ⊎ (length ys ≤ k) → ℕ
  place_of k (inl below) = (had k d below).0
  place_of k (inr beyond) = 0

  -- one stands there
  place_below : (k : ℕ) (at : (k < length ys) ⊎ (length ys ≤ k)) → k < length ys → place_of k at < length xs
  place_below k (inl below) is = (had k d below).2
  place_below k (inr beyond) is = absurd (omega (arith, beyond))

  -- one place, so one has both items
  has_both : (i j : ℕ) (i_at : (i < length ys) ⊎ (length ys ≤ i)) (j_at : (j < length ys) ⊎ (length ys ≤ j)) → i < length ys → j < length ys → place_of i i_at ≡ place_of j j_at →
      (x : X) × R x (get_or ys i d) × R x (get_or ys j d)
  has_both i j (inl i_below) (inl j_below) i_is j_is same =
      let one = had i d i_below in
      let other = had j d j_below in
      let they_are : other.1 ≡ one.1 = sym other.3 ∙ get_or_default xs other.0 other.1 one.1 other.2 ∙ ap (λ (k : ℕ). get_or xs k one.1) (sym same) ∙ one.3 in
      (one.1, one.4, subst (λ (x : X). R x (get_or ys j d)) they_are other.4)
  has_both i j (inr beyond) j_at i_is j_is same = absurd (omega (arith, beyond))
  has_both i j (inl i_below) (inr beyond) i_is j_is same = absurd (omega (arith, beyond))

-- A list is no longer than another where each of its items is had by one of the other, and no two of its items are
-- alike. Two that are had by one have to be alike.
pub no_longer : {X Y : Type 0} (R : X → Y → Type 0) (L : Y → Y → Type 0) (xs : List X) (ys : List Y) → All (λ y. Any (λ x. R x y) xs) ys →
    ((x : X) (y z : Y) → R x y → R x z → L y z) → AllPairs (λ y z. L y z → ⊥) ys → length ys ≤ length xs
no_longer R L xs [] had alike apart = omega arith
no_longer {Y} R L xs (y ∷ rest) had alike apart =
    let ys : List Y = y ∷ rest in
    pigeonhole (length ys) (length xs) (λ k. place_of R xs ys y had k (cases_lt k (length ys)))
    (λ k below. place_below R xs ys y had k (cases_lt k (length ys)) below)
    (λ i j i_below j_below same.
    let both = has_both R xs ys y had i j (cases_lt i (length ys)) (cases_lt j (length ys)) i_below j_below same in
    elim (cases_lt i j) [
      | inl before ↦ absurd (apart i j y before j_below (alike both.0 (get_or ys i y) (get_or ys j y) both.1 both.2))
      | inr after ↦ elim (cases_lt j i) [
        | inl behind ↦ absurd (apart j i y behind i_below (alike both.0 (get_or ys j y) (get_or ys i y) both.2 both.1))
        | inr here ↦ omega arith
      ]
    ])
