-- A text that grows by what one number more of a range gives.
use Rattle.std.proofs.Common.{◌≡◌, ◌∙◌, ℕ, ◌+◌, List, [], ◌∷◌, ◌++◌, append_assoc, append-nil, map, refl, sym, ap, arith}
use Rattle.std.specs.List.{flat_map, range_with_len}
use Rattle.std.proofs.lemmas.Grind.{flat_map-append}
use Rattle.std.proofs.lemmas.List.FromFn.{map-range_with_len_more}

-- numbers taken as they are
same_numbers : (numbers : List ℕ) → map (λ x. x) numbers ≡ numbers
same_numbers [] = refl
same_numbers (x ∷ xs) = ap (λ (rest : List ℕ). x ∷ rest) (same_numbers xs)

-- a range with one number more
range_more : (n : ℕ) → range_with_len 0 (n + 1) ≡ range_with_len 0 n ++ n ∷ []
range_more n =
    sym (same_numbers (range_with_len 0 (n + 1))) ∙ map-range_with_len_more (λ (x : ℕ). x) 0 n n (omega arith)
    ∙ ap (λ (xs : List ℕ). xs ++ n ∷ []) (same_numbers (range_with_len 0 n))

-- what it gives
given_more : (f : ℕ → List ℕ) (n : ℕ) → flat_map f (range_with_len 0 (n + 1)) ≡ flat_map f (range_with_len 0 n) ++ f n
given_more f n =
    ap (flat_map f) (range_more n) ∙ flat_map-append f (range_with_len 0 n) (n ∷ []) ∙ ap (λ (last : List ℕ). flat_map f (range_with_len 0 n) ++ last) (append-nil (f n))

-- a text that has what a range gives, with what the next number gives
pub text_more : (f : ℕ → List ℕ) (n : ℕ) (text new old : List ℕ) → text ≡ old ++ flat_map f (range_with_len 0 n) → new ≡ text ++ f n →
    new ≡ old ++ flat_map f (range_with_len 0 (n + 1))
text_more f n text new old was is =
    is ∙ ap (λ t. t ++ f n) was ∙ append_assoc old (flat_map f (range_with_len 0 n)) (f n) ∙ ap (λ t. old ++ t) (sym (given_more f n))
