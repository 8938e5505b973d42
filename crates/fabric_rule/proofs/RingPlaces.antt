-- Rings lie in their windows, and the windows in the memories.
use Rattle.std.proofs.Common.{ℕ, zero, suc, ◌+◌, ◌-◌, ◌*◌, ◌/◌, ◌%◌, ◌&&◌, ◌<◌, ◌≤◌, ◌==◌, Bool, true, false, List, [], ◌∷◌, ◌++◌, length, min, arith, mod-lt}
use Rattle.std.specs.Prelude.{if◌then◌else◌, map}
use Rattle.std.specs.List.{AllByRecursion, flat_map}
use Rattle.std.proofs.Math.Nat.{mul-le-mul_right}
use Rattle.std.proofs.lemmas.Nat.{le-div}
use Rattle.std.proofs.lemmas.List.{length-append, length-replicate}
use Rattle.step_kinds.specs.Sides.{other_side}
use Rattle.step_kinds.specs.declared.names.Side.{Side}
use Rattle.step_kinds.specs.declared.plan.PairPlan.{PairPlan}
use Rattle.lane_model.specs.Lane.{count_from, version_of}
use Rattle.ring_geometry.specs.Geometry.{Layout, HasRing, IsPlaced, entries_of, frame_size, header_of, index_of, max_payload_of, ring_bytes, slot_of, window_of}
use Rattle.ring_geometry.proofs.Facade.{area_in_window, slot_in_window, in_area}
use Rattle.ring_geometry.specs.Spots.{Index}
use Rattle.pair_model.specs.DeclaredPlans.{IsPair}
use Rattle.pair_model.specs.Plans.{side_plan}
use Rattle.pair_model.specs.Sizes.{header_bytes, layout_of, layout_to}
use Rattle.pair_model.proofs.Facade.{each_queue_has_a_ring}
use Rattle.pair_model.specs.Addresses.{own_address}
use Rattle.pair_model.specs.FreshRings.{fresh_index_word, fresh_index_words, zeroed_header, zeroed_headers}
use Rattle.pair_model.specs.Headers.{flags_offset, len_offset, version_bytes, word_bytes}
use Rattle.pair_model.specs.Stores.{Store}
use Rattle.pair_model.proofs.Facade.{length-word_bytes}
use Rattle.plan_numbers.specs.Memories.{memory_size}
use Rattle.fabric_rule.proofs.StoredBytes.{IsInside}

-- a stretch of a window lies in the memory
pub in_window : (window windows cap at len : ℕ) → window < windows → at + len ≤ cap → window * cap + at + len ≤ windows * cap
in_window window windows cap at len among within =
    let rows : (window + 1) * cap ≤ windows * cap = mul-le-mul_right cap (omega arith) in
    omega (arith, rows)

-- what of a ring lies within its window, the bytes of which the peer sends through
pub record RingLies (l : Layout) : Type 0 where
  pub window : window_of l < l.windows
  pub index : index_of l + 4 ≤ l.window
  pub header : (n at len : ℕ) → at + len ≤ l.header → header_of l (n % entries_of l) + at + len ≤ l.window
  pub payload : (n at len : ℕ) → at + len ≤ max_payload_of l → slot_of l (n % entries_of l) + at + len ≤ l.window

ring_lies : (l : Layout) → HasRing l → 0 < entries_of l → RingLies l
ring_lies l has some =
    record {
      window = mod-lt l.queue has.some_window;
      index = let area = area_in_window l has in let inside = (in_area l has (Index l.queue) tt).1 in omega (arith, area, inside);
      header = λ n at len within.
          let slot = slot_in_window l has (n % entries_of l) (mod-lt n some) in
          let fits = has.header_fits in
          omega (arith, slot, fits, within);
      payload = λ n at len within.
          let slot = slot_in_window l has (n % entries_of l) (mod-lt n some) in
          let fits = has.header_fits in
          omega (arith, slot, fits, within);
    }

some_entry : (l : Layout) → HasRing l → 0 < entries_of l
some_entry l has =
    let fits = has.header_fits in
    let one : 1 ≤ ring_bytes l / frame_size l = le-div 1 (ring_bytes l) (frame_size l) (omega (arith, fits)) (small (ring_bytes l) l.mtu) in
    omega (arith, one)
  where
    small : (bytes mtu : ℕ) → 1 * min mtu (bytes / 2) ≤ bytes
    small bytes mtu = grind arith

placed_lies : (l : Layout) → IsPlaced l → RingLies l
placed_lies l placed = ring_lies l placed.ring (some_entry l placed.ring)

-- The ring to which a side of a declared pair sends on one of its queues lies within its window.
pub lies_of : (plan : PairPlan) (side : Side) (queue : ℕ) → IsPair plan → queue < (side_plan plan side).queues → RingLies (layout_of plan side queue)
lies_of plan side queue declared among = placed_lies (layout_of plan side queue) (each_queue_has_a_ring plan side queue declared among).0

-- The ring in which a side of a declared pair receives on one of its queues lies within its window.
pub lies_to : (plan : PairPlan) (side : Side) (queue : ℕ) → IsPair plan → queue < (side_plan plan side).queues → RingLies (layout_to plan side queue)
lies_to plan side queue declared among = placed_lies (layout_to plan side queue) (each_queue_has_a_ring plan side queue declared among).1

-- fields lie in the header
pub record FieldsLie (plan : PairPlan) : Type 0 where
  pub len : len_offset plan + 4 ≤ header_bytes plan
  pub flags : flags_offset plan + 4 ≤ header_bytes plan
  pub version : (n left : ℕ) → length (version_bytes plan n left) ≤ header_bytes plan

-- A header's length, flags and version lie within the header, on version 4 and on version 5.
pub fields_lie : (plan : PairPlan) → FieldsLie plan
fields_lie plan = let lie = at (plan.a.version == 5 && plan.b.version == 5) in record { len = lie.0; flags = lie.1; version = lie.2 }
  where
    five : Bool → Bool
    five both = (if both then 5 else 4) == 5

    at : (both : Bool)
        → ((if five both then 8 else 4) + 4 ≤ (if five both then 16 else 12)) × ((if five both then 12 else 8) + 4 ≤ (if five both then 16 else 12))
        × ((n left : ℕ) → length (if five both then word_bytes left ++ word_bytes (version_of n) else word_bytes (version_of n)) ≤ (if five both then 16 else 12))
    at true = (omega arith, omega arith, λ n left. let a = length-append (word_bytes left) (word_bytes (version_of n)) in let b = length-word_bytes left in let c = length-word_bytes (version_of n) in omega (arith, a, b, c))
    at false = (omega arith, omega arith, λ n left. let c = length-word_bytes (version_of n) in omega (arith, c))

-- In a side's own memory, where the peer's windows fit into those that it gives

-- A stretch of a window in which a side receives lies in its memory, if the peer's windows fit the side's cap.
pub own_inside : (plan : PairPlan) (side : Side) (queue at len : ℕ) → RingLies (layout_to plan side queue) → (side_plan plan (other_side side)).size ≤ (side_plan plan side).cap → at + len ≤ (side_plan plan (other_side side)).size
    → own_address plan side queue at + len ≤ memory_size plan side
own_inside plan side queue at len lies fits within = in_window (window_of (layout_to plan side queue)) (side_plan plan side).windows (side_plan plan side).cap at len lies.window (omega (arith, fits, within))

-- all that a side stores when it comes up
pub rings_inside : (plan : PairPlan) (side : Side) → IsPair plan → (side_plan plan (other_side side)).size ≤ (side_plan plan side).cap
    → AllByRecursion (IsInside (memory_size plan side)) (fresh_index_words plan side ++ zeroed_headers plan side)
rings_inside plan side declared fits = all_append (fresh_index_words plan side) (zeroed_headers plan side) (words 0 (side_plan plan side).queues (omega arith)) (headers 0 (side_plan plan side).queues (omega arith))
  where
    Inside : Store → Type 0
    Inside = IsInside (memory_size plan side)

    all_append : (xs ys : List Store) → AllByRecursion Inside xs → AllByRecursion Inside ys → AllByRecursion Inside (xs ++ ys)
    all_append [] ys first second = second
    all_append (x ∷ xs) ys first second = (first.0, all_append xs ys first.1 second)

    word : (queue : ℕ) → queue < (side_plan plan side).queues → Inside (fresh_index_word plan side queue)
    word queue among =
        let lies = lies_to plan side queue declared among in
        rw (length-word_bytes (entries_of (layout_of plan side queue) - 1)) (own_inside plan side queue (index_of (layout_to plan side queue)) 4 lies fits lies.index)

    words : (from count : ℕ) → from + count ≤ (side_plan plan side).queues → AllByRecursion Inside (map (fresh_index_word plan side) (count_from from count))
    words from zero within = tt
    words from (suc count) within = (word from (omega arith), words (suc from) count (omega arith))

    header : (queue n : ℕ) → queue < (side_plan plan side).queues → Inside (zeroed_header plan side queue n)
    header queue n among =
        let lies = lies_to plan side queue declared among in
        let in_header = lies.header n 0 (header_bytes plan) (omega arith) in
        rw (length-replicate {A = ℕ} (header_bytes plan) 0) (own_inside plan side queue (header_of (layout_to plan side queue) (n % entries_of (layout_to plan side queue))) (header_bytes plan) lies fits (omega (arith, in_header)))

    ring : (queue from count : ℕ) → queue < (side_plan plan side).queues → AllByRecursion Inside (map (zeroed_header plan side queue) (count_from from count))
    ring queue from zero among = tt
    ring queue from (suc count) among = (header queue from among, ring queue (suc from) count among)

    headers : (from count : ℕ) → from + count ≤ (side_plan plan side).queues
        → AllByRecursion Inside (flat_map (λ queue. map (zeroed_header plan side queue) (count_from 0 (entries_of (layout_to plan side queue)))) (count_from from count))
    headers from zero within = tt
    headers from (suc count) within =
        all_append (map (zeroed_header plan side from) (count_from 0 (entries_of (layout_to plan side from)))) _ (ring from 0 (entries_of (layout_to plan side from)) (omega arith)) (headers (suc from) count (omega arith))
