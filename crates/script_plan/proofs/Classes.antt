-- A class for a queue leaves the names of the pairs.
use Rattle.std.proofs.Common.{◌≡◌, ℕ, zero, suc, ◌<◌, List, [], ◌∷◌, length, slice_set, slice_index_or, map, refl, sym, ◌∙◌, ap, arith}
use Rattle.step_kinds.specs.declared.names.Side.{Side}
use Rattle.step_kinds.specs.declared.names.Side.TheVariants.{A, B}
use Rattle.step_kinds.specs.declared.plan.PairPlan.{PairPlan}
use Rattle.script_words.specs.Before.{with_class}
use Rattle.script_plan.specs.NamesMatch.{NamesMatch}

-- Giving a traffic class to a queue leaves the name of its pair.
pub with_class-name : (pair : PairPlan) (side : Side) (queue class : ℕ) → (with_class pair side queue class).name ≡ pair.name
with_class-name pair A queue class = refl
with_class-name pair B queue class = refl

abbrev name_of_each : List PairPlan → List (List ℕ)
name_of_each pairs = map (λ pair. pair.name) pairs

names-set : (pairs : List PairPlan) (k : ℕ) (pair old : PairPlan) → k < length pairs → pair.name ≡ (slice_index_or pairs k old).name → name_of_each (slice_set pairs k pair) ≡ name_of_each pairs
names-set [] k pair old h e = refl
names-set (p ∷ pairs) zero pair old h e = ap (λ name. name ∷ name_of_each pairs) e
names-set (p ∷ pairs) (suc k) pair old h e = ap (λ names. p.name ∷ names) (names-set pairs k pair old (omega arith) e)

-- Replacing one pair in a list of pairs leaves the list's length.
pub length-set_pairs : (pairs : List PairPlan) (k : ℕ) (pair : PairPlan) → length (slice_set pairs k pair) ≡ length pairs
length-set_pairs [] k pair = refl
length-set_pairs (p ∷ pairs) zero pair = refl
length-set_pairs (p ∷ pairs) (suc k) pair = ap suc (length-set_pairs pairs k pair)

-- The names by which pairs are looked up still match the pairs after a queue of one of them got a traffic class.
pub class-matches : (names : List (List ℕ)) (pairs : List PairPlan) (k : ℕ) (old now : PairPlan) (side : Side) (queue class : ℕ) → k < length pairs → NamesMatch (λ pair. pair.name) names pairs
    → old ≡ slice_index_or pairs k old → now ≡ with_class old side queue class → NamesMatch (λ pair. pair.name) names (slice_set pairs k now)
class-matches names pairs k old now side queue class h match is e =
    let same : now.name ≡ (slice_index_or pairs k old).name = ap (λ pair. pair.name) e ∙ (with_class-name old side queue class ∙ ap (λ pair. pair.name) is) in
    record { named = match.named ∙ sym (names-set pairs k now old h same); few = rw (length-set_pairs pairs k now) match.few }
