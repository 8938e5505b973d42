-- The writes of a frame, piece by piece.
use Rattle.std.proofs.Common.{◌≡◌, ℕ, zero, suc, ◌+◌, ◌-◌, ◌*◌, ◌==◌, ◌++◌, true, cond, min, [], ◌∷◌, map, sum, sym, ◌∙◌, ap, add-one, arith}
use Rattle.std.proofs.lemmas.List.{map-append}
use Rattle.std.proofs.lemmas.List.Sums.{sum_by_push}
use Rattle.step_kinds.specs.declared.names.Side.{Side}
use Rattle.step_kinds.specs.declared.plan.PairPlan.{PairPlan}
use Rattle.lane_model.specs.Lane.{chunks_in, count_from}
use Rattle.pair_model.specs.Macros.{posts_in}
use Rattle.pair_model.specs.Sizes.{agreed_version, sizes_of, pieces_in}

-- Counting on by one number adds the number after the last.
count_from-last : (from n : ℕ) → count_from from (suc n) ≡ count_from from n ++ (from + n) ∷ []
count_from-last from zero = ap (λ k. k ∷ []) (omega arith)
count_from-last from (suc n) = ap (λ ks. from ∷ ks) (count_from-last (suc from) n ∙ ap (λ k. count_from (suc from) n ++ k ∷ []) (omega arith))

-- A sum over the numbers from 0 to k is the sum over those below k plus the value at k.
pub sum_counted_more : (f : ℕ → ℕ) (k : ℕ) → sum (map f (count_from 0 (k + 1))) ≡ sum (map f (count_from 0 k)) + f k
sum_counted_more f k =
    let zero_first : 0 + k ≡ k = omega arith in
    ap (λ n. sum (map f (count_from 0 n))) (add-one k) ∙ (ap (λ ks. sum (map f ks)) (count_from-last 0 k) ∙ (ap sum (map-append f (count_from 0 k) ((0 + k) ∷ []))
    ∙ (sum_by_push (λ y. y) (map f (count_from 0 k)) (f (0 + k)) ∙ ap (λ n. sum (map f (count_from 0 k)) + f n) zero_first)))

-- the posts of a frame on version 5
pub posts_five : (pair : PairPlan) (side : Side) (queue len largest pieces posts : ℕ) → agreed_version pair ≡ 5 → largest ≡ (sizes_of pair side queue).largest → pieces ≡ pieces_in largest len
    → posts ≡ sum (map (λ k. chunks_in (min largest (len - largest * k)) + 4) (count_from 0 pieces)) → posts ≡ posts_in pair side queue len
posts_five pair side queue len largest pieces posts five same all counted =
    let f : ℕ → ℕ → ℕ = λ most n. sum (map (λ k. chunks_in (min most (len - most * k)) + 4) (count_from 0 n)) in
    let is : (agreed_version pair == 5) ≡ true = ap (λ v. v == 5) five in
    counted ∙ (ap (f largest) all ∙ (ap (λ most. f most (pieces_in most len)) same
    ∙ sym (ap (λ t. cond t (f (sizes_of pair side queue).largest (pieces_in (sizes_of pair side queue).largest len)) (chunks_in len + 4)) is)))
