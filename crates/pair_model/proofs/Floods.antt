-- What a flood does to each list.
use Rattle.std.proofs.Common.{◌≡◌, ℕ, zero, suc, ◌<◌, List, [], ◌∷◌, ◌++◌, length, map, refl, ap, arith}
use Rattle.pair_model.specs.Switch.{flooded, list_of}

module _ {F : Type 0} (frame : F) where
  all-reached : (lists : List (List F)) (other : ℕ) → other < length lists → list_of (map (λ list. list ++ frame ∷ []) lists) other ≡ list_of lists other ++ frame ∷ []
  all-reached [] other h = absurd (omega (arith, h))
  all-reached (list ∷ rest) zero h = refl
  all-reached (list ∷ rest) (suc other) h = all-reached rest other (omega (arith, h))

  pub flood-spares : (lists : List (List F)) (port : ℕ) → list_of (flooded lists port frame) port ≡ list_of lists port
  flood-spares [] port = refl
  flood-spares (list ∷ rest) zero = refl
  flood-spares (list ∷ rest) (suc port) = flood-spares rest port

  pub flood-reaches : (lists : List (List F)) (port other : ℕ) → other < length lists → (¬ (other ≡ port)) → list_of (flooded lists port frame) other ≡ list_of lists other ++ frame ∷ []
  flood-reaches [] port other h differs = absurd (omega (arith, h))
  flood-reaches (list ∷ rest) zero zero h differs = absurd (differs refl)
  flood-reaches (list ∷ rest) zero (suc other) h differs = all-reached rest other (omega (arith, h))
  flood-reaches (list ∷ rest) (suc port) zero h differs = refl
  flood-reaches (list ∷ rest) (suc port) (suc other) h differs = flood-reaches rest port other (omega (arith, h)) (λ e. differs (ap (λ n. suc n) e))
