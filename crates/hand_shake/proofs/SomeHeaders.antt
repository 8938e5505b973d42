-- Some headers of a ring that follow one another: zeros for them before those that were zeroed already, and over zeros.
use Rattle.std.proofs.Common.{◌≡◌, ℕ, zero, suc, ◌+◌, ◌-◌, ◌<◌, ◌≤◌, List, ◌∷◌, ◌++◌, length, map, replicate, inl, inr, refl, sym, ap, ◌∙◌, subst, add-zero, zero-add, arith}
use Rattle.std.proofs.lemmas.Bool.{cases_lt}
use Rattle.std.proofs.lemmas.List.{map-append}
use Rattle.pair_model.specs.Addresses.{own_header}
use Rattle.pair_model.specs.FreshRings.{zeroed_header}
use Rattle.pair_model.specs.Stores.{Store}
use Rattle.host_memory.specs.Memory.{AreZero, written}
use Rattle.lane_model.specs.Lane.{count_from}
use Rattle.pair_model.specs.Sizes.{header_bytes, layout_to}
use Rattle.ring_geometry.specs.Geometry.{entries_of}
use Rattle.step_kinds.specs.declared.names.Side.{Side}
use Rattle.step_kinds.specs.declared.plan.PairPlan.{PairPlan}
use Rattle.bridge_pair.specs.Bridge.{Bridge, bridge_bytes_of, with_bytes}
use Rattle.bridge_pair.specs.Ends.{bytes_after}
use Rattle.hand_shake.specs.Headers.{AreSomeZeroed, IsZeroed, some_stores}
use Rattle.hand_shake.proofs.HeaderPages.{at_same, bytes_after-append, header_order}
use Rattle.hand_shake.proofs.ZeroHeaders.{some_zeroed, stored_before, written_zeros}

-- zeros for some headers before those that were zeroed already
count_both : (from count more : ℕ) → count_from from (count + more) ≡ count_from from count ++ count_from (from + count) more
count_both from zero more = rw (add-zero from, zero-add more) refl
count_both from (suc count) more =
    let on : suc from + count ≡ from + suc count = omega arith in
    let size : suc count + more ≡ suc (count + more) = omega arith in
    ap (count_from from) size ∙ ap (λ (rest : List ℕ). from ∷ rest) (count_both (suc from) count more ∙ ap (λ (later : ℕ). count_from (suc from) count ++ count_from later more) on)

-- Zeroing a run of headers where those after it are zeroed is zeroing them all from the run's first one on.
pub some_before : (plan same : PairPlan) (side : Side) (queue from to all : ℕ) (bytes : List ℕ) → same ≡ plan → from ≤ to → to ≤ all
    → bytes_after (some_stores same side queue from (to - from)) (bytes_after (some_stores plan side queue to (all - to)) bytes) ≡ bytes_after (some_stores plan side queue from (all - from)) bytes
some_before plan same side queue from to all bytes plans first last =
    let zero : ℕ → Store = zeroed_header plan side queue in
    let size : (to - from) + (all - to) ≡ all - from = omega arith in
    let on : from + (to - from) ≡ to = omega arith in
    ap (λ (plan' : PairPlan). bytes_after (some_stores plan' side queue from (to - from)) (bytes_after (some_stores plan side queue to (all - to)) bytes)) plans
    ∙ sym (bytes_after-append (some_stores plan side queue from (to - from)) (some_stores plan side queue to (all - to)) bytes)
    ∙ ap (λ (stores : List Store). bytes_after stores bytes)
    (ap (λ (later : ℕ). some_stores plan side queue from (to - from) ++ some_stores plan side queue later (all - to)) (sym on)
    ∙ sym (map-append zero (count_from from (to - from)) (count_from (from + (to - from)) (all - to)))
    ∙ ap (map zero) (sym (count_both from (to - from) (all - to)))
    ∙ ap (λ (count : ℕ). some_stores plan side queue from count) size)

-- so zeros that are written over headers that are zero change nothing
pub zeros_nothing : (plan : PairPlan) (side : Side) (queue from count : ℕ) (mem : List ℕ) → from + count ≤ entries_of (layout_to plan side queue)
    → own_header plan side queue (from + count - 1) + header_bytes plan ≤ length mem → AreSomeZeroed plan side queue from (from + count) mem
    → bytes_after (some_stores plan side queue from count) mem ≡ mem
zeros_nothing plan side queue from zero mem slots within zeroed = refl
zeros_nothing plan side queue from (suc count) mem slots within zeroed =
    let on : suc from + count ≡ from + suc count = omega arith in
    let last = header_order plan side queue from (from + suc count - 1) (omega arith) (omega (arith, slots)) in
    let rest : bytes_after (some_stores plan side queue (suc from) count) mem ≡ mem =
    zeros_nothing plan side queue (suc from) count mem (omega (arith, slots)) (rw on within) (λ n least below. zeroed n (omega (arith, least)) (omega (arith, below))) in
    ap (written (own_header plan side queue from) (replicate (header_bytes plan) 0)) rest
    ∙ written_zeros (own_header plan side queue from) (header_bytes plan) mem (omega (arith, last, within)) (zeroed from (omega arith) (omega arith))

-- headers that are zero before others that are
pub zeroed_both : (plan : PairPlan) (side : Side) (queue from middle to : ℕ) (bytes : List ℕ) → AreSomeZeroed plan side queue from middle bytes → AreSomeZeroed plan side queue middle to bytes
    → AreSomeZeroed plan side queue from to bytes
zeroed_both plan side queue from middle to bytes front rest n least below = elim (cases_lt n middle) [
  | inl before ↦ front n least before
  | inr behind ↦ rest n behind below
]

-- The last of some headers lies in the memory where the last one that is still looked at does, or where headers after
-- that one were looked at.
pub last_within : (plan : PairPlan) (side : Side) (queue to count : ℕ) (bytes : List ℕ) → to ≤ count → (to < count → own_header plan side queue (count - 1) + header_bytes plan ≤ length bytes)
    → own_header plan side queue (to - 1) + header_bytes plan ≤ length bytes → own_header plan side queue (count - 1) + header_bytes plan ≤ length bytes
last_within plan side queue to count bytes fewer before here = elim (cases_lt to count) [
  | inl less ↦ before less
  | inr none ↦ (let same : to ≡ count = omega (arith, fewer, none) in subst (λ (n : ℕ). own_header plan side queue (n - 1) + header_bytes plan ≤ length bytes) same here)
]

-- A header that is zero makes a run of one header, up to the next number, that is zero.
pub zeroed_one : (plan : PairPlan) (side : Side) (queue n to : ℕ) (bytes : List ℕ) → to ≡ n + 1 → IsZeroed plan side queue n bytes → AreSomeZeroed plan side queue n to bytes
zeroed_one plan side queue n to bytes one zeroed k least below =
    let same : n ≡ k = omega (arith, one, least, below) in
    subst (λ (m : ℕ). IsZeroed plan side queue m bytes) same zeroed

-- so headers that are zero may be passed over
pub passed_over : (old now : Bridge) (side : Side) (queue from to all : ℕ) → now ≡ with_bytes old side (bytes_after (some_stores old.plan side queue to (all - to)) (bridge_bytes_of old side))
    → from ≤ to → to ≤ all → all ≤ entries_of (layout_to old.plan side queue) → AreSomeZeroed now.plan side queue from to (bridge_bytes_of now side)
    → (0 < to → own_header now.plan side queue (to - 1) + header_bytes now.plan ≤ length (bridge_bytes_of now side))
    → now ≡ with_bytes old side (bytes_after (some_stores old.plan side queue from (all - from)) (bridge_bytes_of old side))
passed_over old now side queue from to all so_far least most slots zeroed within =
    let later = bytes_after (some_stores old.plan side queue to (all - to)) (bridge_bytes_of old side) in
    let all_of : to ≡ from + (to - from) = omega (arith, least) in
    let zero : AreSomeZeroed old.plan side queue from (from + (to - from)) later =
    subst (λ (m : ℕ). AreSomeZeroed old.plan side queue from m later) all_of (stored_before old now side later (λ plan bytes. AreSomeZeroed plan side queue from to bytes) so_far zeroed) in
    let nothing : bytes_after (some_stores old.plan side queue from (to - from)) later ≡ later = elim (cases_lt from to) [
      | inl some ↦ zeros_nothing old.plan side queue from (to - from) later (omega (arith, least, most, slots))
          (subst (λ (m : ℕ). own_header old.plan side queue (m - 1) + header_bytes old.plan ≤ length later) all_of
          (stored_before old now side later (λ plan bytes. own_header plan side queue (to - 1) + header_bytes plan ≤ length bytes) so_far (within (omega (arith, some))))) zero
      | inr none ↦ (let empty : to - from ≡ 0 = omega (arith, none) in ap (λ (count : ℕ). bytes_after (some_stores old.plan side queue from count) later) empty)
    ] in
    so_far ∙ ap (λ bytes. with_bytes old side bytes) (sym nothing ∙ some_before old.plan old.plan side queue from to all (bridge_bytes_of old side) refl least most)

-- the bytes from the first one's beginning to the last one's end, by a plan that is the same
pub span_of : (plan same : PairPlan) (side : Side) (queue from to first last len header : ℕ) → same ≡ plan → from < to → to ≤ entries_of (layout_to plan side queue)
    → first ≡ own_header same side queue from → last ≡ own_header same side queue (to - 1) → header ≡ header_bytes same → len ≡ last - first
    → (first ≡ own_header plan side queue from) × (len + header ≡ (own_header plan side queue (to - 1) - own_header plan side queue from) + header_bytes plan)
    × (first + (len + header) ≡ last + header_bytes plan)
span_of plan same side queue from to first last len header plans some slots is_first is_last is_header is_len =
    let begin = at_same plan same side queue from first plans is_first in
    let end = at_same plan same side queue (to - 1) last plans is_last in
    let bytes : header ≡ header_bytes plan = is_header ∙ ap header_bytes plans in
    let order = header_order plan side queue from (to - 1) (omega (arith, some)) (omega (arith, some, slots)) in
    (begin, omega (arith, is_len, begin, end, bytes), omega (arith, is_len, begin, end, bytes, order))

-- they lie in the memory where the last one does
pub span_within : (plan same : PairPlan) (side : Side) (queue from to first last len header most : ℕ) → same ≡ plan → from < to → to ≤ entries_of (layout_to plan side queue)
    → first ≡ own_header same side queue from → last ≡ own_header same side queue (to - 1) → header ≡ header_bytes same → len ≡ last - first → last + header_bytes plan ≤ most → first + (len + header) ≤ most
span_within plan same side queue from to first last len header most plans some slots is_first is_last is_header is_len within =
    let span = span_of plan same side queue from to first last len header plans some slots is_first is_last is_header is_len in
    let end = span.2 in
    omega (arith, end, within)

-- where these bytes are zero, all headers from the first to the last one are
pub span_zeroed : (plan same : PairPlan) (side : Side) (queue from to first last len header : ℕ) (mem : List ℕ) → same ≡ plan → from < to → to ≤ entries_of (layout_to plan side queue)
    → first ≡ own_header same side queue from → last ≡ own_header same side queue (to - 1) → header ≡ header_bytes same → len ≡ last - first
    → AreZero first (len + header) mem → AreSomeZeroed plan side queue from to mem
span_zeroed plan same side queue from to first last len header mem plans some slots is_first is_last is_header is_len zeros =
    let span = span_of plan same side queue from to first last len header plans some slots is_first is_last is_header is_len in
    some_zeroed plan side queue from to (len + header) mem span.1 slots (subst (λ (at : ℕ). AreZero at (len + header) mem) span.0 zeros)
