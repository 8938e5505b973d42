-- What a side offers, place by place.
use Rattle.std.proofs.Common.{◌≡◌, ◌∙◌, ℕ, zero, suc, ◌+◌, ◌*◌, ◌/◌, ◌%◌, ◌<◌, ◌==◌, List, [], ◌∷◌, length, slice_index_or, refl, ap, arith, if◌then◌else◌}
use Rattle.std.specs.List.{flat_map}
use Rattle.std.proofs.lemmas.List.{get_or-append-add, get_or_append_left, length-append}
use Rattle.lane_model.specs.Lane.{count_from}
use Rattle.pair_model.specs.Pads.{high_pad, low_pad, offers, word}
use Rattle.step_kinds.specs.declared.plan.SidePlan.{SidePlan}
use Rattle.step_kinds.specs.declared.steps.Label.{Label}
use Rattle.step_kinds.specs.declared.steps.Label.TheVariants.{Pad}

-- the two halves of a window's size, for each of these windows
abbrev halves : ℕ → ℕ → ℕ → List Label
halves size from windows = flat_map (λ m. Pad (high_pad m) (size / word) ∷ Pad (low_pad m) (size % word) ∷ []) (count_from from windows)

-- and what comes after them
abbrev pub behind_halves : SidePlan → List Label
behind_halves own = Pad 3 own.windows ∷ Pad 2 own.queues ∷ Pad 0 own.version ∷ []

length_halves : (size from windows : ℕ) → length (halves size from windows) ≡ 2 * windows
length_halves size from zero = refl
length_halves size from (suc windows) = omega (arith, length_halves size (suc from) windows)

half_at : (size from windows place : ℕ) → place < 2 * windows → slice_index_or (halves size from windows) place (Pad 0 0) ≡ Pad (4 + 2 * from + place) (if place % 2 == 0 then size / word else size % word)
half_at size from zero place within = absurd (omega (arith, within))
half_at size from (suc windows) zero within = let e : 4 + (from + from) ≡ 4 + 2 * from + 0 = omega arith in ap (λ i. Pad i (size / word)) e
half_at size from (suc windows) (suc zero) within = let e : 5 + (from + from) ≡ 4 + 2 * from + 1 = omega arith in ap (λ i. Pad i (size % word)) e
half_at size from (suc windows) (suc (suc place)) within =
    let e : 4 + 2 * suc from + place ≡ 4 + 2 * from + suc (suc place) = omega arith in
    let same : place % 2 ≡ suc (suc place) % 2 = omega arith in
    half_at size (suc from) windows place (omega (arith, within))
    ∙ ap (λ i. Pad i (if place % 2 == 0 then size / word else size % word)) e
    ∙ ap (λ rest. Pad (4 + 2 * from + suc (suc place)) (if rest == 0 then size / word else size % word)) same

-- A side's offer has two scratchpads for each of its windows, and three more.
pub length_offers : (own : SidePlan) → length (offers own) ≡ 2 * own.windows + 3
length_offers own = length-append (halves own.size 0 own.windows) (behind_halves own) ∙ ap (λ n. n + 3) (length_halves own.size 0 own.windows)

-- The first scratchpads offered, from number 4 on, hold in turn the high and the low half of the window size.
pub size_offered : (own : SidePlan) (place : ℕ) → place < 2 * own.windows → slice_index_or (offers own) place (Pad 0 0) ≡ Pad (4 + place) (if place % 2 == 0 then own.size / word else own.size % word)
size_offered own place within =
    get_or_append_left (halves own.size 0 own.windows) (behind_halves own) (Pad 0 0) place (omega (arith, within, length_halves own.size 0 own.windows))
    ∙ half_at own.size 0 own.windows place within

-- the place that is k after the sizes
pub behind_offered : (own : SidePlan) (place k : ℕ) → place ≡ 2 * own.windows + k → slice_index_or (offers own) place (Pad 0 0) ≡ slice_index_or (behind_halves own) k (Pad 0 0)
behind_offered own place k at =
    let e : place ≡ length (halves own.size 0 own.windows) + k = omega (arith, at, length_halves own.size 0 own.windows) in
    ap (λ place. slice_index_or (offers own) place (Pad 0 0)) e
    ∙ get_or-append-add (halves own.size 0 own.windows) (behind_halves own) k (Pad 0 0)
