-- Spots of one memory lie inside it and share no byte.
use Rattle.std.proofs.Common.{◌≡◌, ◌≢◌, ℕ, ◌+◌, ◌*◌, ◌≤◌, refl, sym, ap, subst, inl, inr, ⊎_elim, arith}
use Rattle.std.proofs.lemmas.Nat.{mod_below}
use Rattle.std.proofs.lemmas.Bool.{cases_eq, cases_order}
use Rattle.ring_geometry.specs.Geometry.{Layout, HasRing, window_of, area, area_start, frame_size, max_payload_of, slot_of, header_of}
use Rattle.ring_geometry.specs.Laws.{StandApart, IsSameSide}
use Rattle.ring_geometry.specs.Spots.{Rings, Spot, Payload, Header, Index, layout_at, spot_queue_of, offset_in, spot_bytes_in, IsIn, IsSpot, AreOther, spot_at, spot_bytes}
use Rattle.ring_geometry.proofs.Areas.{row_ends, area_in_window, areas_apart, slot_in_area}

-- two stretches that share no byte, moved on by as much, or within two such stretches
moved : (base from len from' len' : ℕ) → StandApart from len from' len' → StandApart (base + from) len (base + from') len'
moved base from len from' len' apart = ⊎_elim (λ h. inl (omega (arith, h))) (λ h. inr (omega (arith, h))) apart

within_apart : (from len from' len' at size at' size' : ℕ) → StandApart from len from' len' → from ≤ at → at + size ≤ from + len → from' ≤ at' → at' + size' ≤ from' + len'
    → StandApart at size at' size'
within_apart from len from' len' at size at' size' apart a b c d = ⊎_elim (λ h. inl (omega (arith, h, b, c))) (λ h. inr (omega (arith, h, a, d))) apart

swapped : (from len from' len' : ℕ) → StandApart from len from' len' → StandApart from' len' from len
swapped from len from' len' apart = ⊎_elim (λ h. inr h) (λ h. inl h) apart

-- a header ends its slot
header_after : (l : Layout) → HasRing l → (i : ℕ) → slot_of l i + max_payload_of l ≡ header_of l i
header_after l h i = let fits = h.header_fits in omega arith

header_ends : (l : Layout) → HasRing l → (i : ℕ) → header_of l i + l.header ≡ slot_of l i + frame_size l
header_ends l h i = let fits = h.header_fits in omega arith

slots_apart : (l : Layout) (i j : ℕ) → i ≢ j → StandApart (slot_of l i) (frame_size l) (slot_of l j) (frame_size l)
slots_apart l i j differ =
    elim (cases_order i j) [
      | inl same ↦ absurd (differ same)
      | inr o ↦ elim o [
        | inl h ↦ let ends = row_ends (frame_size l) i j h in inl (omega (arith, ends))
        | inr h ↦ let ends = row_ends (frame_size l) j i h in inr (omega (arith, ends))
      ]
    ]

-- a spot lies in the area of its queue
pub in_area : (l : Layout) → HasRing l → (spot : Spot) → IsIn l spot → (area_start l ≤ offset_in l spot) × (offset_in l spot + spot_bytes_in l spot ≤ area_start l + area l)
in_area l h (Payload queue slot) within =
    let fits = slot_in_area l h slot within in
    let header = header_ends l h slot in
    let after = header_after l h slot in
    (omega arith, omega (arith, fits, header, after))
in_area l h (Header queue slot from len) within =
    let fits = slot_in_area l h slot within.0 in
    let header = header_ends l h slot in
    let after = header_after l h slot in
    let inside = within.1 in
    (omega (arith, after), omega (arith, fits, header, inside))
in_area l h (Index queue) within = let fits = h.index_fits in (omega (arith, fits), omega (arith, fits))

-- the areas of two queues of one memory share no byte
areas_in_memory : (rings : Rings) → rings.size ≤ rings.cap → (q q' : ℕ) → HasRing (layout_at rings q) → HasRing (layout_at rings q') → q ≢ q'
    → StandApart (rings.cap * window_of (layout_at rings q) + area_start (layout_at rings q)) (area (layout_at rings q))
    (rings.cap * window_of (layout_at rings q') + area_start (layout_at rings q')) (area (layout_at rings q'))
areas_in_memory rings fits q q' h h' differ =
    elim (cases_order (window_of (layout_at rings q)) (window_of (layout_at rings q'))) [
      | inl same ↦
          let side : IsSameSide (layout_at rings q) (layout_at rings q') = record { window = refl; windows = refl; queues = refl } in
          let apart = areas_apart (layout_at rings q) (layout_at rings q') h h' side same differ in
          let base : rings.cap * window_of (layout_at rings q) ≡ rings.cap * window_of (layout_at rings q') = ap (λ w. rings.cap * w) same in
          ⊎_elim (λ before. inl (omega (arith, base, before))) (λ behind. inr (omega (arith, base, behind))) apart
      | inr o ↦ elim o [
        | inl below ↦
            let ends = row_ends rings.cap (window_of (layout_at rings q)) (window_of (layout_at rings q')) below in
            let inside = area_in_window (layout_at rings q) h in
            inl (omega (arith, ends, inside, fits))
        | inr above ↦
            let ends = row_ends rings.cap (window_of (layout_at rings q')) (window_of (layout_at rings q)) above in
            let inside = area_in_window (layout_at rings q') h' in
            inr (omega (arith, ends, inside, fits))
      ]
    ]

-- a payload and some bytes of a header
payload_and_header : (l : Layout) → HasRing l → (i j from len : ℕ) → from + len ≤ l.header → StandApart (slot_of l i) (max_payload_of l) (header_of l j + from) len
payload_and_header l h i j from len inside =
    let one = header_after l h i in
    let one_ends = header_ends l h i in
    let other = header_after l h j in
    let other_ends = header_ends l h j in
    ⊎_elim (λ same. let at : header_of l i ≡ header_of l j = ap (header_of l) same in inl (omega (arith, one, at)))
    (λ differ. within_apart _ _ _ _ _ _ _ _ (slots_apart l i j differ) (omega arith) (omega (arith, one, one_ends)) (omega (arith, other)) (omega (arith, other_ends, inside)))
    (cases_eq i j)

-- bytes of the headers of two slots
headers_apart : (l : Layout) → HasRing l → (i j from len from' len' : ℕ) → from + len ≤ l.header → from' + len' ≤ l.header → i ≢ j
    → StandApart (header_of l i + from) len (header_of l j + from') len'
headers_apart l h i j from len from' len' inside inside' differ =
    let one = header_after l h i in
    let one_ends = header_ends l h i in
    let other = header_after l h j in
    let other_ends = header_ends l h j in
    within_apart _ _ _ _ _ _ _ _ (slots_apart l i j differ) (omega (arith, one)) (omega (arith, one_ends, inside)) (omega (arith, other)) (omega (arith, other_ends, inside'))

-- two spots of one ring
in_one_ring : (l : Layout) → HasRing l → (one other : Spot) → IsIn l one → IsIn l other → spot_queue_of one ≡ spot_queue_of other → AreOther one other
    → StandApart (offset_in l one) (spot_bytes_in l one) (offset_in l other) (spot_bytes_in l other)
in_one_ring l h (Payload q i) (Payload q' j) a b same differ =
    let slots = slots_apart l i j (⊎_elim (λ queues. absurd (queues same)) (λ places. places) differ) in
    let one = header_after l h i in
    let one_ends = header_ends l h i in
    let other = header_after l h j in
    let other_ends = header_ends l h j in
    within_apart _ _ _ _ _ _ _ _ slots (omega arith) (omega (arith, one, one_ends)) (omega arith) (omega (arith, other, other_ends))
in_one_ring l h (Payload q i) (Header q' j from' len') a b same differ = payload_and_header l h i j from' len' b.1
in_one_ring l h (Payload q i) (Index q') a b same differ =
    let fits = slot_in_area l h i a in
    let one = header_after l h i in
    let ends = header_ends l h i in
    inl (omega (arith, fits, one, ends))
in_one_ring l h (Header q i from len) (Payload q' j) a b same differ = swapped _ _ _ _ (payload_and_header l h j i from len a.1)
in_one_ring l h (Header q i from len) (Header q' j from' len') a b same differ =
    ⊎_elim (λ queues. absurd (queues same)) (λ rest. ⊎_elim (λ places. headers_apart l h i j from len from' len' a.1 b.1 places)
    (λ fields. ⊎_elim (λ one_slot. let P : ℕ → Type 0 = λ k. StandApart (header_of l i + from) len (header_of l k + from') len' in subst P one_slot (moved (header_of l i) from len from' len' fields))
    (λ places. headers_apart l h i j from len from' len' a.1 b.1 places) (cases_eq i j)) rest) differ
in_one_ring l h (Header q i from len) (Index q') a b same differ =
    let fits = slot_in_area l h i a.0 in
    let ends = header_ends l h i in
    let inside = a.1 in
    inl (omega (arith, fits, ends, inside))
in_one_ring l h (Index q) (Payload q' j) a b same differ =
    let fits = slot_in_area l h j b in
    let one = header_after l h j in
    let ends = header_ends l h j in
    inr (omega (arith, fits, one, ends))
in_one_ring l h (Index q) (Header q' j from' len') a b same differ =
    let fits = slot_in_area l h j b.0 in
    let ends = header_ends l h j in
    let inside = b.1 in
    inr (omega (arith, fits, ends, inside))
in_one_ring l h (Index q) (Index q') a b same differ = absurd (differ same)

-- Two spots of one memory that are no parts of one another share no byte, if the peer's windows fit the memory's.
pub spots_apart : (rings : Rings) → rings.size ≤ rings.cap → (one other : Spot) → IsSpot rings one → IsSpot rings other → AreOther one other
    → StandApart (spot_at rings one) (spot_bytes rings one) (spot_at rings other) (spot_bytes rings other)
spots_apart rings fits one other (h, a) (h', b) differ =
    ⊎_elim (λ same. one_queue same) (λ queues. two_queues queues) (cases_eq (spot_queue_of one) (spot_queue_of other))
  where
    one_queue : spot_queue_of one ≡ spot_queue_of other → StandApart (spot_at rings one) (spot_bytes rings one) (spot_at rings other) (spot_bytes rings other)
    one_queue same =
        let P : ℕ → Type 0 = λ q. IsIn (layout_at rings q) other in
        let Q : ℕ → Type 0 = λ q. StandApart (spot_at rings one) (spot_bytes rings one) (rings.cap * window_of (layout_at rings q) + offset_in (layout_at rings q) other) (spot_bytes_in (layout_at rings q) other) in
        subst Q same (moved _ _ _ _ _ (in_one_ring (layout_at rings (spot_queue_of one)) h one other a (subst P (sym same) b) same differ))

    two_queues : spot_queue_of one ≢ spot_queue_of other → StandApart (spot_at rings one) (spot_bytes rings one) (spot_at rings other) (spot_bytes rings other)
    two_queues queues =
        let areas = areas_in_memory rings fits (spot_queue_of one) (spot_queue_of other) h h' queues in
        let first = in_area (layout_at rings (spot_queue_of one)) h one a in
        let second = in_area (layout_at rings (spot_queue_of other)) h' other b in
        within_apart _ _ _ _ _ _ _ _ areas (omega (arith, first.0)) (omega (arith, first.1)) (omega (arith, second.0)) (omega (arith, second.1))

-- A spot lies within its window as the peer has it, and within the memory if the peer's windows fit the memory's.
pub spot_inside : (rings : Rings) → (spot : Spot) → IsSpot rings spot
    → (offset_in (layout_at rings (spot_queue_of spot)) spot + spot_bytes rings spot ≤ rings.size)
    × (rings.size ≤ rings.cap → spot_at rings spot + spot_bytes rings spot ≤ rings.cap * rings.windows)
spot_inside rings spot (h, a) =
    let l : Layout = layout_at rings (spot_queue_of spot) in
    let inside = (in_area l h spot a).1 in
    let window = area_in_window l h in
    let in_window : offset_in l spot + spot_bytes_in l spot ≤ rings.size = omega (arith, inside, window) in
    let below = mod_below (spot_queue_of spot) rings.windows h.some_window in
    (in_window, λ fits. let ends = row_ends rings.cap (window_of l) rings.windows below in omega (arith, in_window, ends, fits))
