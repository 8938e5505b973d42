-- Headers: their pages are promised one after the other, and they are zeroed from the last one on.
use Rattle.std.proofs.Common.{◌≡◌, ℕ, suc, ◌+◌, ◌*◌, ◌%◌, ◌-◌, ◌<◌, ◌≤◌, List, [], ◌∷◌, ◌++◌, length, map, take, replicate, Result, Ok, Err, OnOk, inl, inr, refl, sym, ap, ◌∙◌, subst, arith, Bool, true, false, ◌==◌, if◌then◌else◌}
use Rattle.std.proofs.Math.Nat.{add-mul, mod-eq_of_lt, mul-le-mul_right}
use Rattle.std.proofs.lemmas.Bool.{cases_lt}
use Rattle.std.proofs.lemmas.List.{length-replicate, take-replicate}
use Rattle.std.specs.List.{flat_map}
use Rattle.pair_model.specs.Addresses.{own_header}
use Rattle.pair_model.specs.Stores.{Store}
use Rattle.host_memory.specs.Memory.{ArePromised, Touches, written}
use Rattle.lane_model.specs.Lane.{count_from}
use Rattle.pair_model.specs.FreshRings.{zeroed_header}
use Rattle.pair_model.specs.Plans.{side_plan}
use Rattle.pair_model.specs.Sizes.{agreed_version, header_bytes, layout_to}
use Rattle.ring_geometry.specs.Geometry.{Layout, entries_of, frame_size, header_of, window_of}
use Rattle.step_kinds.specs.declared.names.Side.{Side}
use Rattle.step_kinds.specs.declared.names.Side.TheVariants.{A, B}
use Rattle.step_kinds.specs.declared.plan.PairPlan.{PairPlan}
use Rattle.bridge_pair.specs.Bridge.{Bridge, bridge_bytes_of, pages_of, with_bytes, with_pages}
use Rattle.bridge_pair.specs.Ends.{bytes_after}
use Rattle.bridge_pair.specs.Pages.{PagesGrow}
use Rattle.bridge_pair.proofs.Facade.{grows_further, grows_nothing, promised_still}
use Rattle.hand_shake.specs.Headers.{AreHeadersOfReady, AreSomeZeroed, IsHeaderReady, IsReceivingRing, IsZeroed, TouchesHeader, TouchesHeaderOf, ring_stores}
use borrow.Author.Count.{below_more}

-- A window's number times cap, plus a header's offset there, is the header's address in the receiver's memory.
pub at_header : (plan : PairPlan) (side : Side) (queue n window offset at : ℕ) (ring : Layout) → ring ≡ layout_to plan side queue → window ≡ window_of ring → offset ≡ header_of ring n
    → n < entries_of (layout_to plan side queue) → at ≡ window * (side_plan plan side).cap + offset → at ≡ own_header plan side queue n
at_header plan side queue n window offset at ring is_ring is_window is_offset within is_at =
    let slot : n % entries_of (layout_to plan side queue) ≡ n = mod-eq_of_lt within in
    is_at
    ∙ ap (λ window. window * (side_plan plan side).cap + offset) (is_window ∙ ap window_of is_ring)
    ∙ ap (λ offset. window_of (layout_to plan side queue) * (side_plan plan side).cap + offset) (is_offset ∙ ap (λ (ring : Layout). header_of ring n) is_ring)
    ∙ ap (λ n. window_of (layout_to plan side queue) * (side_plan plan side).cap + header_of (layout_to plan side queue) n) (sym slot)

-- headers stand in the order of their numbers
header_place : (plan : PairPlan) (side : Side) (queue n : ℕ) → n < entries_of (layout_to plan side queue)
    → own_header plan side queue n ≡ window_of (layout_to plan side queue) * (side_plan plan side).cap + header_of (layout_to plan side queue) n
header_place plan side queue n within =
    ap (λ n. window_of (layout_to plan side queue) * (side_plan plan side).cap + header_of (layout_to plan side queue) n) (mod-eq_of_lt within)

-- Of two headers of a ring the one with the lower number doesn't stand after the other in memory.
pub header_order : (plan : PairPlan) (side : Side) (queue n m : ℕ) → n ≤ m → m < entries_of (layout_to plan side queue) → own_header plan side queue n ≤ own_header plan side queue m
header_order plan side queue n m least within =
    let l = layout_to plan side queue in
    let one = header_place plan side queue n (omega (arith, least, within)) in
    let other = header_place plan side queue m within in
    let row : n * frame_size l ≤ m * frame_size l = mul-le-mul_right (frame_size l) least in
    omega (arith, one, other, row)

-- from one to the next they are a slot apart
pub header_row : (plan : PairPlan) (side : Side) (queue from n : ℕ) → (layout_to plan side queue).header ≤ frame_size (layout_to plan side queue) → from ≤ n → n < entries_of (layout_to plan side queue)
    → own_header plan side queue n ≡ own_header plan side queue from + (n - from) * frame_size (layout_to plan side queue)
header_row plan side queue from n fits least within =
    let l = layout_to plan side queue in
    let one = header_place plan side queue from (omega (arith, least, within)) in
    let other = header_place plan side queue n within in
    let apart : n ≡ from + (n - from) = omega (arith, least) in
    let rows : n * frame_size l ≡ from * frame_size l + (n - from) * frame_size l = ap (λ (k : ℕ). k * frame_size l) apart ∙ add-mul from (n - from) (frame_size l) in
    omega (arith, one, other, rows, fits)

-- the header's place by a plan that is the same
pub at_same : (plan same : PairPlan) (side : Side) (queue n at : ℕ) → same ≡ plan → at ≡ own_header same side queue n → at ≡ own_header plan side queue n
at_same plan same side queue n at plans is_at = is_at ∙ ap (λ (plan : PairPlan). own_header plan side queue n) plans

-- the place of a header before another one, as many slots back
pub header_back : (plan same : PairPlan) (side : Side) (ring : Layout) (n later last slot gap : ℕ) → same ≡ plan → ring ≡ layout_to plan side ring.queue → ring.header ≤ frame_size ring → n ≤ later → later < entries_of ring
    → last ≡ own_header same side ring.queue later → slot ≡ frame_size ring → gap ≡ later - n → (gap * slot ≤ last) × (last - gap * slot ≡ own_header plan side ring.queue n)
header_back plan same side ring n later last slot gap plans is_ring fits least within is_last is_slot is_gap =
    let l = layout_to plan side ring.queue in
    let at = at_same plan same side ring.queue later last plans is_last in
    let row = header_row plan side ring.queue n later (subst (λ (l : Layout). l.header ≤ frame_size l) is_ring fits) least (subst (λ (l : Layout). later < entries_of l) is_ring within) in
    let size : slot ≡ frame_size l = is_slot ∙ ap frame_size is_ring in
    let gaps : gap * slot ≡ (later - n) * frame_size l = ap (λ (g : ℕ). g * slot) is_gap ∙ ap (λ (s : ℕ). (later - n) * s) size in
    (omega (arith, at, row, gaps), omega (arith, at, row, gaps))

-- a fact of the plan and of a side's bytes, if only pages were promised since
pub seen_again : (old new : Bridge) (side : Side) (P : PairPlan → List ℕ → Type 0) → new ≡ with_pages old side (pages_of new side) → P new.plan (bridge_bytes_of new side) → P old.plan (bridge_bytes_of old side)
seen_again old new A P same fact = subst (λ (bridge : Bridge). P bridge.plan (bridge_bytes_of bridge A)) same fact
seen_again old new B P same fact = subst (λ (bridge : Bridge). P bridge.plan (bridge_bytes_of bridge B)) same fact

-- A fact of the plan and of a side's bytes still holds where only pages of that side were promised since.
pub seen_since : (old new : Bridge) (side : Side) (P : PairPlan → List ℕ → Type 0) → new ≡ with_pages old side (pages_of new side) → P old.plan (bridge_bytes_of old side) → P new.plan (bridge_bytes_of new side)
seen_since old new A P same fact = subst (λ (bridge : Bridge). P bridge.plan (bridge_bytes_of bridge A)) (sym same) fact
seen_since old new B P same fact = subst (λ (bridge : Bridge). P bridge.plan (bridge_bytes_of bridge B)) (sym same) fact

-- a side with the bytes that it has
pub bytes_same : (bridge : Bridge) (side : Side) → with_bytes bridge side (bridge_bytes_of bridge side) ≡ bridge
bytes_same bridge A = refl
bytes_same bridge B = refl

-- Setting a side's promised pages to those that it has changes nothing.
pub pages_same : (bridge : Bridge) (side : Side) → bridge ≡ with_pages bridge side (pages_of bridge side)
pages_same bridge A = refl
pages_same bridge B = refl

-- the pages of a header that isn't zero are promised
pub one_grows : (plan : PairPlan) (side : Side) (queue n at len : ℕ) (bytes old new : List ℕ) → at ≡ own_header plan side queue n → len ≡ header_bytes plan → n < entries_of (layout_to plan side queue)
    → ¬ IsZeroed plan side queue n bytes → PagesGrow (Touches at len) old new → PagesGrow (TouchesHeaderOf plan side queue bytes) old new
one_grows plan side queue n at len bytes old new is_at is_len among unlike grow =
    grows_further (TouchesHeaderOf plan side queue bytes) (Touches at len) old old new (grows_nothing (TouchesHeaderOf plan side queue bytes) old) grow
    (λ page touch. (n, among, unlike, subst (λ len. Touches (own_header plan side queue n) len page) is_len (subst (λ at. Touches at len page) is_at touch)))

-- A range that a call promises, if it succeeds, is promised also as named by an equal address and length.
pub one_promised : {X E : Type 0} (at len from count : ℕ) (new : List ℕ) (told : Result X E) → from ≡ at → count ≡ len → OnOk told (ArePromised from count new) → OnOk told (ArePromised at len new)
one_promised at len from count new (Ok done) is_at is_len promised = subst (λ len. ArePromised at len new) is_len (subst (λ at. ArePromised at count new) is_at promised)
one_promised at len from count new (Err wants) is_at is_len promised = tt

-- Pages promised in two goes for headers of a ring that aren't zero are all promised for such headers.
pub header_grows : (old now : Bridge) (side : Side) (queue : ℕ) (new : List ℕ) → now ≡ with_pages old side (pages_of now side)
    → PagesGrow (TouchesHeaderOf old.plan side queue (bridge_bytes_of old side)) (pages_of old side) (pages_of now side)
    → PagesGrow (TouchesHeaderOf now.plan side queue (bridge_bytes_of now side)) (pages_of now side) new → PagesGrow (TouchesHeaderOf old.plan side queue (bridge_bytes_of old side)) (pages_of old side) new
header_grows old now side queue new same so_far next =
    grows_further (TouchesHeaderOf old.plan side queue (bridge_bytes_of old side)) (TouchesHeaderOf now.plan side queue (bridge_bytes_of now side)) _ _ _ so_far next
    (λ page touch. seen_again old now side (λ plan bytes. TouchesHeaderOf plan side queue bytes page) same touch)

-- a header that is ready stays so
pub ready_still : (touched : ℕ → Type 0) (plan : PairPlan) (side : Side) (queue n : ℕ) (bytes now new : List ℕ) → PagesGrow touched now new → IsHeaderReady plan side queue n bytes now → IsHeaderReady plan side queue n bytes new
ready_still touched plan side queue n bytes now new grow (inl zero) = inl zero
ready_still touched plan side queue n bytes now new grow (inr promised) = inr (promised_still touched now new (own_header plan side queue n) (header_bytes plan) grow promised)

-- the ring that was made for a queue is the one that the side receives in on it
pub receiving : (plan : PairPlan) (side : Side) (queue : ℕ) (ring : Layout) → ring ≡ layout_to plan side queue → queue < (side_plan plan side).queues → IsReceivingRing plan side ring
receiving plan side queue ring is among = subst (λ (l : Layout). IsReceivingRing plan side l) (sym is) (refl, among)

-- headers after one are ready once it is promised, and so are those before it that are zero
pub ready_down : (old now new : Bridge) (side : Side) (queue from count all : ℕ) → now ≡ with_pages old side (pages_of now side) → new ≡ with_pages old side (pages_of new side)
    → ((k : ℕ) → count ≤ k → k < all → IsHeaderReady old.plan side queue k (bridge_bytes_of old side) (pages_of now side))
    → PagesGrow (TouchesHeaderOf now.plan side queue (bridge_bytes_of now side)) (pages_of now side) (pages_of new side)
    → ArePromised (own_header now.plan side queue (count - 1)) (header_bytes now.plan) (pages_of new side)
    → AreSomeZeroed new.plan side queue from (count - 1) (bridge_bytes_of new side)
    → (k : ℕ) → from ≤ k → k < all → IsHeaderReady old.plan side queue k (bridge_bytes_of old side) (pages_of new side)
ready_down old now new side queue from count all same so so_far next promised zeroed k least below = elim (cases_lt k (count - 1)) [
  | inl before ↦ inl (seen_again old new side (λ plan bytes. IsZeroed plan side queue k bytes) so (zeroed k least before))
  | inr behind ↦ elim (cases_lt k count) [
    | inl here ↦ (let is : count - 1 ≡ k = omega (arith, behind, here) in
        inr (seen_again old now side (λ plan bytes. ArePromised (own_header plan side queue k) (header_bytes plan) (pages_of new side)) same
        (subst (λ (n : ℕ). ArePromised (own_header now.plan side queue n) (header_bytes now.plan) (pages_of new side)) is promised)))
    | inr after ↦ ready_still (TouchesHeaderOf now.plan side queue (bridge_bytes_of now side)) old.plan side queue k (bridge_bytes_of old side) _ (pages_of new side) next (so_far k after below)
  ]
]

-- Pages promised for a side's headers that aren't zero, and then for those of one ring, are all such headers'.
pub ring_grows : (old now : Bridge) (side : Side) (queue : ℕ) (new : List ℕ) → now ≡ with_pages old side (pages_of now side) → queue < (side_plan old.plan side).queues
    → PagesGrow (TouchesHeader old.plan side (bridge_bytes_of old side)) (pages_of old side) (pages_of now side)
    → PagesGrow (TouchesHeaderOf now.plan side queue (bridge_bytes_of now side)) (pages_of now side) new → PagesGrow (TouchesHeader old.plan side (bridge_bytes_of old side)) (pages_of old side) new
ring_grows old now side queue new same among so_far next =
    grows_further (TouchesHeader old.plan side (bridge_bytes_of old side)) (TouchesHeaderOf now.plan side queue (bridge_bytes_of now side)) _ _ _ so_far next
    (λ page touch. (queue, among, seen_again old now side (λ plan bytes. TouchesHeaderOf plan side queue bytes page) same touch))

-- If all headers of the rings before one can be zeroed, and then that one's too, those of all up to it can be.
pub ring_ready : (old now : Bridge) (side : Side) (queue : ℕ) (new : List ℕ) → now ≡ with_pages old side (pages_of now side)
    → ((k : ℕ) → k < queue → AreHeadersOfReady old.plan side k (bridge_bytes_of old side) (pages_of now side)) → PagesGrow (TouchesHeaderOf now.plan side queue (bridge_bytes_of now side)) (pages_of now side) new
    → AreHeadersOfReady now.plan side queue (bridge_bytes_of now side) new → (k : ℕ) → k < queue + 1 → AreHeadersOfReady old.plan side k (bridge_bytes_of old side) new
ring_ready old now side queue new same so_far next ready =
    below_more (λ k. AreHeadersOfReady old.plan side k (bridge_bytes_of old side) new) queue
    (λ k below n within. ready_still (TouchesHeaderOf now.plan side queue (bridge_bytes_of now side)) old.plan side k n (bridge_bytes_of old side) _ new next (so_far k below n within))
    (seen_again old now side (λ plan bytes. AreHeadersOfReady plan side queue bytes new) same ready)

-- Zeroing

-- Zeroing a header where those after it are zeroed is zeroing all of the ring's headers from that one on.
pub header_before : (plan same : PairPlan) (side : Side) (queue n later left more : ℕ) (bytes : List ℕ) → same ≡ plan → n < entries_of (layout_to plan side queue) → later ≡ suc n → more ≡ suc left
    → written (own_header same side queue n) (replicate (header_bytes same) 0) (bytes_after (map (zeroed_header plan side queue) (count_from later left)) bytes)
    ≡ bytes_after (map (zeroed_header plan side queue) (count_from n more)) bytes
header_before plan same side queue n later left more bytes plans within next one_more = rw (plans, next, one_more)

-- Two lists of stores, the newest first, leave what the first makes of what the second leaves.
pub bytes_after-append : (stores older : List Store) (bytes : List ℕ) → bytes_after (stores ++ older) bytes ≡ bytes_after stores (bytes_after older bytes)
bytes_after-append [] older bytes = refl
bytes_after-append (store ∷ stores) older bytes = ap (written store.at store.bytes) (bytes_after-append stores older bytes)

-- Zeroing a ring's headers where later rings' are zeroed is zeroing the headers of all rings from that one on.
pub ring_before : (plan same : PairPlan) (side : Side) (queue later left more : ℕ) (bytes : List ℕ) → same ≡ plan → later ≡ suc queue → more ≡ suc left
    → bytes_after (ring_stores same side queue) (bytes_after (flat_map (ring_stores plan side) (count_from later left)) bytes) ≡ bytes_after (flat_map (ring_stores plan side) (count_from queue more)) bytes
ring_before plan same side queue later left more bytes plans next one_more =
    ap (λ (plan' : PairPlan). bytes_after (ring_stores plan' side queue) (bytes_after (flat_map (ring_stores plan side) (count_from later left)) bytes)) plans
    ∙ rw (next, one_more) (sym (bytes_after-append (ring_stores plan side queue) (flat_map (ring_stores plan side) (count_from (suc queue) left)) bytes))

-- A header has at most 16 bytes, whichever version a pair speaks.
pub few_bytes : (plan : PairPlan) → header_bytes plan ≤ 16
few_bytes plan = by_version (agreed_version plan == 5) where
  by_version : (five : Bool) → (if five then 16 else 12) ≤ 16
  by_version true = omega arith
  by_version false = omega arith

-- the zeros of a header
pub zeros_of : (plan : PairPlan) (len : ℕ) → len ≡ header_bytes plan → take len (replicate 16 0) ≡ replicate {A = ℕ} (header_bytes plan) 0
zeros_of plan len is_len = take-replicate len 16 0 (omega (arith, few_bytes plan, is_len)) ∙ ap (λ len. replicate len 0) is_len

-- there are as many as the header has bytes
pub zeros_size : (plan : PairPlan) (len : ℕ) → len ≡ header_bytes plan → length (take len (replicate {A = ℕ} 16 0)) ≡ header_bytes plan
zeros_size plan len is_len = ap length (zeros_of plan len is_len) ∙ length-replicate (header_bytes plan) 0

-- If a header's pages are promised, those of the zeros that are written over it are.
pub zeros_promised : (plan : PairPlan) (at from len : ℕ) (pages : List ℕ) → from ≡ at → len ≡ header_bytes plan → ArePromised at (header_bytes plan) pages
    → ArePromised from (length (take len (replicate {A = ℕ} 16 0))) pages
zeros_promised plan at from len pages is_from is_len promised page touch =
    promised page (subst (λ (size : ℕ). Touches at size page) (zeros_size plan len is_len) (subst (λ (place : ℕ). Touches place (length (take len (replicate {A = ℕ} 16 0))) page) is_from touch))

-- Zeros written at a header's place, as many as it has bytes, make the header zero.
pub zeros_over : (bridge : Bridge) (side : Side) (at from len : ℕ) → from ≡ at → len ≡ header_bytes bridge.plan
    → with_bytes bridge side (written from (take len (replicate {A = ℕ} 16 0)) (bridge_bytes_of bridge side)) ≡ with_bytes bridge side (written at (replicate (header_bytes bridge.plan) 0) (bridge_bytes_of bridge side))
zeros_over bridge side at from len is_from is_len =
    ap (λ (place : ℕ). with_bytes bridge side (written place (take len (replicate {A = ℕ} 16 0)) (bridge_bytes_of bridge side))) is_from
    ∙ ap (λ (zeros : List ℕ). with_bytes bridge side (written at zeros (bridge_bytes_of bridge side))) (zeros_of bridge.plan len is_len)
