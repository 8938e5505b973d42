-- Headers that are zero: how a test tells, that zeros written elsewhere leave them so, and that zeros written there
-- change nothing.
use Rattle.std.proofs.Common.{◌≡◌, ℕ, ◌+◌, ◌-◌, ◌≤◌, Bool, true, false, List, [], ◌∷◌, ◌++◌, length, get_or, take, drop, map, replicate, nat_eq, IsTrue, inl, inr, refl, sym, ap, ◌∙◌, subst, arith}
use Rattle.std.proofs.lemmas.Bool.{cases_lt}
use Rattle.std.specs.Cmp.Lexicographic.{pointwise, same_text, other_text}
use Rattle.std.proofs.lemmas.Grind.{common_steps, same_number_lists}
use Rattle.std.proofs.lemmas.List.{length-replicate, take-replicate}
use Rattle.std.specs.List.{flat_map}
use Rattle.host_memory.specs.Memory.{AreZero, bytes_at, written}
use Rattle.step_kinds.specs.declared.names.Side.{Side}
use Rattle.step_kinds.specs.declared.names.Side.TheVariants.{A, B}
use Rattle.step_kinds.specs.declared.plan.PairPlan.{PairPlan}
use Rattle.lane_model.specs.Lane.{count_from}
use Rattle.pair_model.specs.Sizes.{header_bytes, layout_to}
use Rattle.ring_geometry.specs.Geometry.{entries_of}
use Rattle.pair_model.specs.Addresses.{own_header}
use Rattle.pair_model.specs.FreshRings.{zeroed_header}
use Rattle.bridge_pair.specs.Bridge.{Bridge, bridge_bytes_of, pages_of, with_bytes}
use Rattle.bridge_pair.specs.Ends.{bytes_after}
use Rattle.hand_shake.specs.Headers.{AreHeadersOfReady, AreSomeZeroed, IsHeaderReady, ring_stores}
use Rattle.hand_shake.proofs.HeaderPages.{bytes_after-append, header_order}

read_zero : (room at len : ℕ) (mem read : List ℕ) → len ≤ room → at + len ≤ length mem → read ≡ bytes_at at len mem → read ++ drop len (replicate {A = ℕ} room 0) ≡ replicate room 0 → AreZero at len mem
read_zero room at len mem read few within is_read all i below =
    let e = ap (λ (bytes : List ℕ). get_or bytes i 0) all in
    grind (arith, common_steps, e)

zero_read : (room at len : ℕ) (mem read : List ℕ) → len ≤ room → at + len ≤ length mem → read ≡ bytes_at at len mem → AreZero at len mem → read ++ drop len (replicate {A = ℕ} room 0) ≡ replicate room 0
zero_read room at len mem read few within is_read zero =
    same_number_lists _ _ (grind (arith, common_steps))
    (λ k h. elim (cases_lt k len) [
      | inl less ↦ (let e = zero k less in grind (arith, common_steps, e))
      | inr more ↦ grind (arith, common_steps)
    ])

zero_told : (room at len : ℕ) (mem read : List ℕ) (test : Bool) → len ≤ room → at + len ≤ length mem → read ≡ bytes_at at len mem
    → test ≡ pointwise nat_eq (read ++ drop len (replicate room 0)) (replicate room 0) → (IsTrue test → AreZero at len mem) × (AreZero at len mem → IsTrue test)
zero_told room at len mem read true few within is_read told = (λ yes. read_zero room at len mem read few within is_read (same_text _ _ told), λ zero. refl)
zero_told room at len mem read false few within is_read told = (λ no. absurd (cc no), λ zero. absurd (other_text _ _ told (zero_read room at len mem read few within is_read zero)))

-- what a test says of the bytes that were read into the front of this many zeros
pub zeros_told : (room at len from count : ℕ) (mem read : List ℕ) (test : Bool) → from ≡ at → count ≡ len → len ≤ room → at + len ≤ length mem → read ≡ bytes_at from (length (take count (replicate {A = ℕ} room 0))) mem
    → test ≡ pointwise nat_eq (read ++ drop count (replicate room 0)) (replicate room 0) → (IsTrue test → AreZero at len mem) × (AreZero at len mem → IsTrue test)
zeros_told room at len from count mem read test is_from is_count few within is_read told =
    let size : length (take count (replicate {A = ℕ} room 0)) ≡ len = ap length (take-replicate count room 0 (omega (arith, few, is_count))) ∙ length-replicate count 0 ∙ is_count in
    zero_told room at len mem read test few within (is_read ∙ ap (λ size. bytes_at from size mem) size ∙ ap (λ at. bytes_at at len mem) is_from)
    (told ∙ ap (λ count. pointwise nat_eq (read ++ drop count (replicate room 0)) (replicate room 0)) is_count)

-- where all bytes from a header's beginning to a later one's end are zero, all headers from the one to the other are
pub some_zeroed : (plan : PairPlan) (side : Side) (queue from to len : ℕ) (mem : List ℕ) → len ≡ (own_header plan side queue (to - 1) - own_header plan side queue from) + header_bytes plan
    → to ≤ entries_of (layout_to plan side queue) → AreZero (own_header plan side queue from) len mem → AreSomeZeroed plan side queue from to mem
some_zeroed plan side queue from to len mem is_len slots zero n least below i inside =
    let before = header_order plan side queue from n least (omega (arith, below, slots)) in
    let behind = header_order plan side queue n (to - 1) (omega (arith, below)) (omega (arith, below, slots)) in
    let at : own_header plan side queue from + (own_header plan side queue n + i - own_header plan side queue from) ≡ own_header plan side queue n + i = omega (arith, before) in
    subst (λ (k : ℕ). get_or mem k 0 ≡ 0) at (zero (own_header plan side queue n + i - own_header plan side queue from) (omega (arith, before, behind, is_len, inside)))

-- zeros that are written anywhere leave a zero
pub zero_stays : (from count : ℕ) (mem : List ℕ) (k : ℕ) → get_or mem k 0 ≡ 0 → get_or (written from (replicate count 0) mem) k 0 ≡ 0
zero_stays from count mem k zero = grind (arith, common_steps)

-- and so do the zeros of headers, of one ring and of several
header_stays : (plan : PairPlan) (side : Side) (queue : ℕ) (places mem : List ℕ) (k : ℕ) → get_or mem k 0 ≡ 0 → get_or (bytes_after (map (zeroed_header plan side queue) places) mem) k 0 ≡ 0
header_stays plan side queue [] mem k zero = zero
header_stays plan side queue (n ∷ places) mem k zero =
    zero_stays (own_header plan side queue n) (header_bytes plan) (bytes_after (map (zeroed_header plan side queue) places) mem) k (header_stays plan side queue places mem k zero)

ring_stays : (plan : PairPlan) (side : Side) (queues mem : List ℕ) (k : ℕ) → get_or mem k 0 ≡ 0 → get_or (bytes_after (flat_map (ring_stores plan side) queues) mem) k 0 ≡ 0
ring_stays plan side [] mem k zero = zero
ring_stays plan side (queue ∷ queues) mem k zero =
    rw (bytes_after-append (ring_stores plan side queue) (flat_map (ring_stores plan side) queues) mem)
    (header_stays plan side queue (count_from 0 (entries_of (layout_to plan side queue))) (bytes_after (flat_map (ring_stores plan side) queues) mem) k (ring_stays plan side queues mem k zero))

-- so a header that could be zeroed can be zeroed still
pub ready_after : (plan : PairPlan) (side : Side) (queue n : ℕ) (places mem pages : List ℕ) → IsHeaderReady plan side queue n mem pages
    → IsHeaderReady plan side queue n (bytes_after (map (zeroed_header plan side queue) places) mem) pages
ready_after plan side queue n places mem pages (inl zero) = inl (λ i below. header_stays plan side queue places mem (own_header plan side queue n + i) (zero i below))
ready_after plan side queue n places mem pages (inr promised) = inr promised

-- The headers of a ring that can be zeroed still can be after the headers of any rings are zeroed.
pub ready_after_rings : (plan : PairPlan) (side : Side) (queue : ℕ) (queues mem pages : List ℕ) → AreHeadersOfReady plan side queue mem pages
    → AreHeadersOfReady plan side queue (bytes_after (flat_map (ring_stores plan side) queues) mem) pages
ready_after_rings plan side queue queues mem pages ready = λ n within. elim (ready n within) [
  | inl zero ↦ inl (λ i below. ring_stays plan side queues mem (own_header plan side queue n + i) (zero i below))
  | inr promised ↦ inr promised
]

-- a fact of the plan, of a side's bytes and of its pages, if only bytes were stored since
pub stored_again : (old new : Bridge) (side : Side) (bytes : List ℕ) (P : PairPlan → List ℕ → List ℕ → Type 0) → new ≡ with_bytes old side bytes → P old.plan bytes (pages_of old side)
    → P new.plan (bridge_bytes_of new side) (pages_of new side)
stored_again old new A bytes P same fact = subst (λ (bridge : Bridge). P bridge.plan (bridge_bytes_of bridge A) (pages_of bridge A)) (sym same) fact
stored_again old new B bytes P same fact = subst (λ (bridge : Bridge). P bridge.plan (bridge_bytes_of bridge B) (pages_of bridge B)) (sym same) fact

-- A fact of a side's bytes once they are stored, and of the plan then, holds of these bytes and the plan before.
pub stored_before : (old new : Bridge) (side : Side) (bytes : List ℕ) (P : PairPlan → List ℕ → Type 0) → new ≡ with_bytes old side bytes → P new.plan (bridge_bytes_of new side) → P old.plan bytes
stored_before old new A bytes P same fact = subst (λ (bridge : Bridge). P bridge.plan (bridge_bytes_of bridge A)) same fact
stored_before old new B bytes P same fact = subst (λ (bridge : Bridge). P bridge.plan (bridge_bytes_of bridge B)) same fact

-- zeros that are written over zeros change nothing
pub written_zeros : (at len : ℕ) (mem : List ℕ) → at + len ≤ length mem → AreZero at len mem → written at (replicate len 0) mem ≡ mem
written_zeros at len mem within zero =
    same_number_lists _ _ (grind (arith, common_steps))
    (λ k h. elim (cases_lt k at) [
      | inl before ↦ grind (arith, common_steps)
      | inr behind ↦ elim (cases_lt k (at + len)) [
        | inl inside ↦ (let e = zero (k - at) (omega (arith, behind, inside)) in grind (arith, common_steps, e))
        | inr after ↦ grind (arith, common_steps)
      ]
    ])
