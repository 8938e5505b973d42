-- What a port reads of its side's memory is what the site's bytes are.
use Rattle.std.proofs.Common.{◌≡◌, ℕ, ◌+◌, ◌-◌, ◌*◌, ◌%◌, ◌<◌, ◌≤◌, ◌==◌, ◌&&◌, Bool, true, false, List, min, refl, sym, ap, ◌∙◌, inl, inr, arith}
use Rattle.std.specs.Prelude.{if◌then◌else◌, nat_lt, not}
use Rattle.std.proofs.lemmas.Bool.{cases_lt, ltb-false}
use Rattle.byteorder.specs.Endian.{little_number}
use Rattle.step_kinds.specs.Bits.{has_bit}
use Rattle.step_kinds.specs.Sides.{other_side}
use Rattle.step_kinds.specs.declared.names.Side.{Side}
use Rattle.step_kinds.specs.declared.names.Side.TheVariants.{A, B}
use Rattle.step_kinds.specs.declared.plan.PairPlan.{PairPlan}
use Rattle.lane_model.specs.Lane.{chunk_size, version_of}
use Rattle.ring_geometry.specs.Geometry.{entries_of, header_of, index_of, max_payload_of, slot_of}
use Rattle.pair_model.specs.Both.{Both}
use Rattle.pair_model.specs.DeclaredPlans.{IsPair, SizesFit}
use Rattle.pair_model.specs.Plans.{side_plan}
use Rattle.pair_model.specs.Sizes.{Sizes, header_bytes, layout_to, sizes_in}
use Rattle.pair_model.specs.Addresses.{own_header, own_index_word, own_slot}
use Rattle.pair_model.specs.Headers.{Bytes, NoEntry, ALinkDownEntry, AnotherVersion, TooManyBytes, AnEntry, Header, found_in_memory, found_with, header_in, header_with, index_word_in, part_in_memory, word_at}
use Rattle.ledger_model.specs.Memory.{Site, bytes_of_site}
use Rattle.plan_numbers.specs.Memories.{memory_size}
use Rattle.bridge_pair.specs.Bridge.{Bridge}
use Rattle.frame_ring.specs.PortView.{bytes_seen}
use Rattle.fabric_rule.specs.StandsFor.{bridge_for}
use Rattle.fabric_rule.proofs.Follows.{with_promises}
use Rattle.fabric_rule.proofs.RingPlaces.{RingLies, lies_to, own_inside}
use Rattle.fabric_rule.proofs.StoredBytes.{read_inside}

-- the peer's windows fit into those that the side's memory gives
pub own_fits : (plan : PairPlan) → SizesFit plan → (side : Side) → (side_plan plan (other_side side)).size ≤ (side_plan plan side).cap
own_fits plan fits A = fits.1
own_fits plan fits B = fits.0

-- If the sizes of a pair fit, a side's windows are no larger than those that its peer's memory gives.
pub peer_fits : (plan : PairPlan) → SizesFit plan → (side : Side) → (side_plan plan side).size ≤ (side_plan plan (other_side side)).cap
peer_fits plan fits A = fits.0
peer_fits plan fits B = fits.1

same_header : (a b c d a' b' c' d' : ℕ) → a ≡ a' → b ≡ b' → c ≡ c' → d ≡ d' → ◌≡◌ {A = Header} (record { left = a; ver = b; len = c; flags = d }) (record { left = a'; ver = b'; len = c'; flags = d' })
same_header a b c d a' b' c' d' p q r s = cc

-- a header by words that are the same
header_words : (plan : PairPlan) (f g : ℕ → ℕ) → ((offset : ℕ) → offset + 4 ≤ header_bytes plan → f offset ≡ g offset) → header_with plan f ≡ header_with plan g
header_words plan f g same = at (plan.a.version == 5 && plan.b.version == 5) same
  where
    five : Bool → Bool
    five both = (if both then 5 else 4) == 5

    fields : Bool → (ℕ → ℕ) → Header
    fields is word = if is then record { left = word 0; ver = word 4; len = word 8; flags = word 12 } else record { left = 0; ver = word 0; len = word 4; flags = word 8 }

    at : (both : Bool) → ((offset : ℕ) → offset + 4 ≤ (if five both then 16 else 12) → f offset ≡ g offset) → fields (five both) f ≡ fields (five both) g
    at true h = same_header (f 0) (f 4) (f 8) (f 12) (g 0) (g 4) (g 8) (g 12) (h 0 (omega arith)) (h 4 (omega arith)) (h 8 (omega arith)) (h 12 (omega arith))
    at false h = same_header 0 (f 0) (f 4) (f 8) 0 (g 0) (g 4) (g 8) refl (h 0 (omega arith)) (h 4 (omega arith)) (h 8 (omega arith))

-- an entry that is found fits a slot
found_test : (none down version many more : Bool) (seen own len largest sum most left : ℕ) (found_len found_left : ℕ)
    → (if none then NoEntry else if down then ALinkDownEntry else if version then AnotherVersion seen own else if many then TooManyBytes len largest else if more then TooManyBytes sum most else AnEntry len left) ≡ AnEntry found_len found_left
    → (many ≡ false) × (len ≡ found_len)
found_test true down version many more seen own len largest sum most left found_len found_left is = cc
found_test false true version many more seen own len largest sum most left found_len found_left is = cc
found_test false false true many more seen own len largest sum most left found_len found_left is = cc
found_test false false false true more seen own len largest sum most left found_len found_left is = cc
found_test false false false false true seen own len largest sum most left found_len found_left is = cc
found_test false false false false false seen own len largest sum most left found_len found_left is = (refl, cc)

-- An entry that a receiver finds in its memory is no longer than the largest payload of its ring.
pub found_fits : (plan : PairPlan) (bytes : Bytes) (side : Side) (queue got gathered len left : ℕ) → found_in_memory plan bytes side queue got gathered ≡ AnEntry len left → len ≤ max_payload_of (layout_to plan side queue)
found_fits plan bytes side queue got gathered len left is =
    let header : Header = header_in plan bytes side queue got in
    let sizes : Sizes = sizes_in plan (layout_to plan side queue) in
    let found =
    found_test (not (has_bit header.flags 0)) (has_bit header.flags 1) (not (header.ver == version_of got)) (nat_lt sizes.largest header.len) (nat_lt sizes.most (gathered + header.len)) header.ver (version_of got) header.len
    sizes.largest (gathered + header.len) sizes.most header.left len left is in
    let within = ltb-false sizes.largest header.len found.0 in
    omega (arith, within, found.1)

module _ (plan : PairPlan) (site : Site) (pages : Both (List ℕ)) (spare : Both ℕ) where
  abbrev bridge : Bridge
  bridge = with_promises (bridge_for plan site) pages spare

  pub sees : (side : Side) (at len : ℕ) → at + len ≤ memory_size plan side → bytes_seen (with_promises (bridge_for plan site) pages spare) side at len ≡ bytes_of_site site side at len
  sees A at len within = read_inside site.stores.a (memory_size plan A) at len within
  sees B at len within = read_inside site.stores.b (memory_size plan B) at len within

  sees_word : (side : Side) (at : ℕ) → at + 4 ≤ memory_size plan side → word_at (bytes_seen (with_promises (bridge_for plan site) pages spare)) side at ≡ word_at (bytes_of_site site) side at
  sees_word side at within = ap (little_number 4) (sees side at 4 within)

  module _ (side : Side) (queue : ℕ) (declared : IsPair plan) (among : queue < (side_plan plan side).queues) (fits : (side_plan plan (other_side side)).size ≤ (side_plan plan side).cap) where
    lies : RingLies (layout_to plan side queue)
    lies = lies_to plan side queue declared among

    pub header_inside : (n at len : ℕ) → at + len ≤ header_bytes plan → own_header plan side queue n + at + len ≤ memory_size plan side
    header_inside n at len within =
        let in_header = lies.header n at len within in
        let inside = own_inside plan side queue (header_of (layout_to plan side queue) (n % entries_of (layout_to plan side queue)) + at) len lies fits (omega (arith, in_header)) in
        omega (arith, inside)

    pub word_inside : own_index_word plan side queue + 4 ≤ memory_size plan side
    word_inside = own_inside plan side queue (index_of (layout_to plan side queue)) 4 lies fits lies.index

    pub same_word : index_word_in plan (bytes_seen (with_promises (bridge_for plan site) pages spare)) side queue ≡ index_word_in plan (bytes_of_site site) side queue
    same_word = sees_word side (own_index_word plan side queue) word_inside

    pub same_found : (got gathered : ℕ) → found_in_memory plan (bytes_seen (with_promises (bridge_for plan site) pages spare)) side queue got gathered ≡ found_in_memory plan (bytes_of_site site) side queue got gathered
    same_found got gathered =
        ap (found_with (sizes_in plan (layout_to plan side queue)) got gathered)
        (header_words plan (λ offset. word_at (bytes_seen (with_promises (bridge_for plan site) pages spare)) side (own_header plan side queue got + offset)) (λ offset. word_at (bytes_of_site site) side (own_header plan side queue got + offset))
        (λ offset within. sees_word side (own_header plan side queue got + offset) (header_inside got offset 4 within)))

    part_inside : (got len part : ℕ) → len ≤ max_payload_of (layout_to plan side queue) → chunk_size * part ≤ len
        → own_slot plan side queue got + chunk_size * part + min chunk_size (len - chunk_size * part) ≤ memory_size plan side
    part_inside got len part short within =
        let in_slot = lies.payload got (chunk_size * part) (min chunk_size (len - chunk_size * part)) (piece chunk_size (chunk_size * part) len (max_payload_of (layout_to plan side queue)) short within) in
        let inside = own_inside plan side queue (slot_of (layout_to plan side queue) (got % entries_of (layout_to plan side queue)) + chunk_size * part) (min chunk_size (len - chunk_size * part)) lies fits in_slot in
        omega (arith, inside)
      where
        piece : (size at len most : ℕ) → len ≤ most → at ≤ len → at + min size (len - at) ≤ most
        piece size at len most short within = grind arith

    none_left : (at n : ℕ) → n ≡ 0 → bytes_seen (with_promises (bridge_for plan site) pages spare) side at n ≡ bytes_of_site site side at n
    none_left at n none = ap (bytes_seen (with_promises (bridge_for plan site) pages spare) side at) none ∙ nothing side at ∙ sym (ap (bytes_of_site site side at) none)
      where
        nothing : (side : Side) (at : ℕ) → bytes_seen (with_promises (bridge_for plan site) pages spare) side at 0 ≡ bytes_of_site site side at 0
        nothing A at = refl
        nothing B at = refl

    pub same_part : (got len part : ℕ) → len ≤ max_payload_of (layout_to plan side queue)
        → part_in_memory plan (bytes_seen (with_promises (bridge_for plan site) pages spare)) side queue got len part ≡ part_in_memory plan (bytes_of_site site) side queue got len part
    same_part got len part short = elim (cases_lt len (chunk_size * part)) [
      | inl behind ↦ none_left (own_slot plan side queue got + chunk_size * part) (min chunk_size (len - chunk_size * part)) (let none : len - chunk_size * part ≡ 0 = omega (arith, behind) in rw none refl)
      | inr within ↦ sees side (own_slot plan side queue got + chunk_size * part) (min chunk_size (len - chunk_size * part)) (part_inside got len part short within)
    ]
