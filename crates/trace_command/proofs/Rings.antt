-- The text of a ring, put together member by member.
use Rattle.std.proofs.Common.{◌≡◌, ◌∙◌, ℕ, List, ◌++◌, append_assoc, ap}
use Rattle.std.specs.Prelude.{codes, slice_index_or}
use Rattle.step_kinds.specs.declared.names.Side.{Side}
use Rattle.step_kinds.specs.declared.plan.PairPlan.{PairPlan}
use Rattle.ring_geometry.specs.Geometry.{Layout, entries_of, max_payload_of}
use Rattle.pair_model.specs.Orders.{classes_of}
use Rattle.pair_model.specs.Sizes.{layout_of, sizes_of}
use Rattle.trace_command.specs.Words.{number_member}
use Rattle.trace_command.specs.Head.{ring_object}

regrouped : (t a b c d : List ℕ) → (((t ++ a) ++ b) ++ c) ++ d ≡ t ++ (((a ++ b) ++ c) ++ d)
regrouped t a b c d = simp append_assoc

-- the members of a ring, one after another, are those of its object
pub ring_text : (pair : PairPlan) (side : Side) (queue : ℕ) (ring : Layout) (entries largest class : ℕ) (old one two three new : List ℕ) → ring ≡ layout_of pair side queue →
    entries ≡ entries_of ring → largest ≡ max_payload_of ring → class ≡ slice_index_or (classes_of pair side) queue 0 →
    one ≡ old ++ number_member (codes "{\"entries\":") entries → two ≡ one ++ number_member (codes ",\"largest\":") largest →
    three ≡ two ++ number_member (codes ",\"class\":") class → new ≡ three ++ codes "}" → new ≡ old ++ ring_object pair side queue
ring_text pair side queue ring entries largest class old one two three new is of_entries of_largest of_class first second third last =
    let a : ℕ → List ℕ = λ n. number_member (codes "{\"entries\":") n in
    let b : ℕ → List ℕ = λ n. number_member (codes ",\"largest\":") n in
    let c : ℕ → List ℕ = λ n. number_member (codes ",\"class\":") n in
    let sizes = sizes_of pair side queue in
    last
    ∙ ap (λ (text : List ℕ). text ++ codes "}") (third ∙ ap (λ (text : List ℕ). text ++ c class) (second ∙ ap (λ (text : List ℕ). text ++ b largest) first))
    ∙ regrouped old (a entries) (b largest) (c class) (codes "}")
    ∙ ap (λ (n : ℕ). old ++ (((a n ++ b largest) ++ c class) ++ codes "}")) (of_entries ∙ ap entries_of is)
    ∙ ap (λ (n : ℕ). old ++ (((a sizes.entries ++ b n) ++ c class) ++ codes "}")) (of_largest ∙ ap max_payload_of is)
    ∙ ap (λ (n : ℕ). old ++ (((a sizes.entries ++ b sizes.largest) ++ c n) ++ codes "}")) of_class
