-- The mover's steps: a slot goes to the mover, its header is stored, and it is home again with its flag.
use Rattle.std.proofs.Common.{◌≡◌, ℕ, suc, ◌+◌, ◌-◌, ◌%◌, ◌^◌, ◌<◌, ◌≤◌, Bool, true, false, List, [], ◌∷◌, ◌++◌, length, map, drop, set, get_or, refl, sym, subst, ap, ◌∙◌, inl, inr, arith, mod-lt, mod-eq_of_lt, length-set, drop-cons, Some, nat_lt}
use native.Mathlib.Nat.{add-mod_right, add-mod_left, mod-mod}
use Rattle.std.proofs.lemmas.Bool.{lt-ltb, le-ltb, cases_lt}
use Rattle.std.proofs.lemmas.List.{length_push, get_or_push, get_or_append_left, length-map, length-drop, get_or-drop, map-set}
use Rattle.std.proofs.Math.Seq.{map-set_same}
use mathlib.Core.Option.{some}
use Rattle.table_lane.specs.LaneNames.{Entry, entry_of_frame, GoesDown, Write, Data, Flag, Bell, Slot, blank_slot, Lane, lane_slot_of, ring_with, with_flags, flags_of, done, entry_of, data_of}
use Rattle.table_lane.specs.Words.{table_header_of}
use Rattle.table_lane.specs.Views.{TableBytes}
use Rattle.table_lane.specs.Borders.{Borders, out, full}
use Rattle.table_lane.specs.ShownLane.{table_in_flight, PostedStand, HeadersStand, RingStands, HeldStand}
use Rattle.table_lane.specs.LaneNames.{Land, LaneRuns}
use Rattle.table_lane.specs.LaneSteps.{header_steps, flag_steps}
use Rattle.table_lane.specs.Kinds.{Takes, StoresHeader, StoresFlag}
use Rattle.table_lane.proofs.LaneLaws.{same_number}
use Rattle.table_lane.proofs.LaneRuns.{runs_keep, fields_of, data_is_fields, with_fields, fields_keep_flags, fields_give_version, land_fields, land_flag_and_bell}
use Rattle.table_lane.proofs.Flights.{in_flight-take, in_flight-store}
use Rattle.table_lane.proofs.Headers.{headers_taken, header_stored, headers_flagged}
use Rattle.table_lane.proofs.Slots.{slot_by, slot_is, moves_past, slot_changes}
use Rattle.table_lane.proofs.Order.{in_order}
use Rattle.table_lane.proofs.SenderShows.{borders_in, entry_is_frame}

-- a posted header that shows entry n tells that it was sent
pub sent_if_posted : (N : ℕ) (posted : List ℕ) (n sent : ℕ) → 0 < N → N ≤ 65535 → n ≤ sent → PostedStand N posted sent → get_or posted (n % N) 0 ≡ table_header_of n → n < sent
sent_if_posted N posted n sent some_slot small low h shown = elim (cases_lt n sent) [
  | inl below ↦ below
  | inr above ↦ elim (cases_lt n N) [
    | inl first ↦
        let at : n % N ≡ n = mod-eq_of_lt first in
        let none : get_or posted n 0 ≡ 0 = h.never n above first in
        let same : get_or posted (n % N) 0 ≡ get_or posted n 0 = ap (λ (k : ℕ). get_or posted k 0) at in
        absurd (omega arith)
    | inr later ↦
        let old : ℕ = n - N in
        let back : old + N ≡ n = omega arith in
        let at : old % N ≡ n % N = sym (add-mod_right old N) ∙ ap (λ (k : ℕ). k % N) back in
        let was : get_or posted (old % N) 0 ≡ table_header_of old = h.newest old (omega arith) (omega arith) in
        let same : get_or posted (old % N) 0 ≡ get_or posted (n % N) 0 = ap (λ (k : ℕ). get_or posted k 0) at in
        let versions : old % 2 ^ 32 ≡ n % 2 ^ 32 = omega arith in
        let one : old ≡ n = same_number (2 ^ 32) old n (omega arith) (omega arith) versions in
        absurd (omega arith)
  ]
]

-- the slot of the next entry goes to the mover
pub takes : Takes
takes N m slots n is shown h =
    let o = in_order N m slots h in
    let k = borders_in m in
    let frame : TableBytes = get_or m.send.sent n [] in
    let small = h.of.small in
    let below : n < length m.send.sent = sent_if_posted N m.words.posted n (length m.send.sent) (omega (arith, o.two)) h.of.small (omega (arith, o.taken)) h.posted shown in
    let more : length (m.mover.held ++ frame ∷ []) ≡ length m.mover.held + 1 = length_push m.mover.held frame in
    let more_marks : length (m.mover.stored ++ false ∷ []) ≡ length m.mover.stored + 1 = length_push m.mover.stored false in
    let marks = h.holding.marks in
    let after : Borders = record k { taken = m.mover.flagged + length (m.mover.held ++ frame ∷ []) } in
    let one : after.taken ≡ k.taken + 1 = omega arith in
    let l0 : nat_lt n k.cleared ≡ false = le-ltb n k.cleared (omega arith) in
    let l1 : nat_lt n k.looked ≡ false = le-ltb n k.looked (omega arith) in
    let l2 : nat_lt n k.flagged ≡ false = le-ltb n k.flagged (omega arith) in
    let l4 : nat_lt n k.sent ≡ true = lt-ltb n k.sent below in
    let low : m.back.freed ≤ n = omega arith in
    let holding : HeldStand m.send.sent m.mover.flagged (m.mover.held ++ frame ∷ []) (m.mover.stored ++ false ∷ []) = record {
      frames = λ j low_j. elim (cases_lt j (length m.mover.held)) [
        | inl old ↦ get_or_append_left m.mover.held (frame ∷ []) [] j old ∙ h.holding.frames j old
        | inr new ↦ get_or_push m.mover.held frame [] j (omega arith) ∙ ap (λ (i : ℕ). get_or m.send.sent i []) (omega arith)
      ];
      within = omega arith;
      marks = omega arith;
    } in (
      below,
      h.places.at n low (omega arith) ∙ ap some (slot_is k m.send.sent n l0 l1 l2 (le-ltb n k.taken (omega arith)) l4 refl),
      assumption (
        h.parts.flight ∙ sym (in_flight-take m.mover.flagged m.mover.stored (drop m.mover.flagged m.lane.sent)),
        headers_taken N m.words.headers m.mover.flagged m.mover.stored h.headers,
        holding,
        slot_changes N k after m.send.sent m.send.sent slots n out (omega (arith, o.two)) h.places refl low (omega arith)
            (λ j other. ap (λ b. slot_by (nat_lt j k.cleared) (nat_lt j k.looked) (nat_lt j k.flagged) b (nat_lt j k.sent) (nat_lt j k.claimed) (full m.send.sent j))
            (ap (nat_lt j) one ∙ moves_past j k.taken (λ e. other (e ∙ sym is))))
            (slot_is after m.send.sent n l0 l1 l2 (lt-ltb n after.taken (omega arith)) l4 refl),
      ),
    )

-- headers and flags after one slot of the ring changed
ring_changes : (ring : List Slot) (headers flags : List ℕ) (at : ℕ) (slot : Slot) (header flag : ℕ) → slot.ver ≡ header % 2 ^ 32 → slot.flags ≡ flag → RingStands ring headers flags
    → RingStands (set ring at slot) (set headers at header) (set flags at flag)
ring_changes ring headers flags at slot header flag ver raised h = record {
  versions = map-set (λ (s : Slot). s.ver) ring at slot ∙ (λ i. set (h.versions i) at (ver i)) ∙ sym (map-set (λ (w : ℕ). w % 2 ^ 32) headers at header);
  raised = map-set (λ (s : Slot). s.flags) ring at slot ∙ (λ i. set (h.raised i) at (raised i));
}

-- only the header of a slot changed
pub ring_stores_header : (ring : List Slot) (headers flags : List ℕ) (at : ℕ) (slot : Slot) (header : ℕ) → slot.ver ≡ header % 2 ^ 32 → slot.flags ≡ (get_or ring at blank_slot).flags → RingStands ring headers flags
    → RingStands (set ring at slot) (set headers at header) flags
ring_stores_header ring headers flags at slot header ver same h = record {
  versions = map-set (λ (s : Slot). s.ver) ring at slot ∙ (λ i. set (h.versions i) at (ver i)) ∙ sym (map-set (λ (w : ℕ). w % 2 ^ 32) headers at header);
  raised = map-set_same (λ (s : Slot). s.flags) ring at slot blank_slot same ∙ h.raised;
}

-- only the flags of a slot changed
pub ring_stores_flag : (ring : List Slot) (headers flags : List ℕ) (at : ℕ) (slot : Slot) (flag : ℕ) → slot.ver ≡ (get_or ring at blank_slot).ver → slot.flags ≡ flag → RingStands ring headers flags
    → RingStands (set ring at slot) headers (set flags at flag)
ring_stores_flag ring headers flags at slot flag same raised h = record {
  versions = map-set_same (λ (s : Slot). s.ver) ring at slot blank_slot same ∙ h.versions;
  raised = map-set (λ (s : Slot). s.flags) ring at slot ∙ (λ i. set (h.raised i) at (raised i));
}

-- the header of a held entry is stored: its fields land
pub stores_header : StoresHeader
stores_header N m slots j n is held left h =
    let o = in_order N m slots h in
    let lane : Lane = m.lane in
    let entry : Entry = entry_of lane n in
    let rest : List Entry = drop m.mover.flagged lane.sent in
    let count : length lane.sent ≡ length m.send.sent = ap length h.parts.entries ∙ length-map m.send.sent entry_of_frame in
    let behind_flags : length rest ≡ length lane.sent - m.mover.flagged = length-drop m.mover.flagged lane.sent in
    let marks = h.holding.marks in
    let split = in_flight-store m.mover.flagged j n m.mover.stored rest (omega arith) (omega (arith, o.taken)) is left in
    let same_entry : get_or rest j GoesDown ≡ entry = get_or-drop m.mover.flagged lane.sent j GoesDown ∙ ap (λ (i : ℕ). get_or lane.sent i GoesDown) (sym is) in
    let front : lane.flight ≡ split.0 ++ (map (Data n) (fields_of entry) ++ split.1) =
    h.parts.flight ∙ split.2 ∙ ap (λ (d : List Write). split.0 ++ (d ++ split.1)) (ap (data_of n) same_entry ∙ data_is_fields n entry) in
    let entries = h.of.entries in
    let positions : length lane.ring ≡ lane.entries = h.law.2.room.slots in
    let words_long : length m.words.headers ≡ N =
    sym (length-map m.words.headers (λ (header : ℕ). header % 2 ^ 32)) ∙ sym (ap length h.ring.versions) ∙ length-map lane.ring (λ (s : Slot). s.ver) ∙ positions ∙ entries in
    let two : 2 ≤ lane.entries = h.law.2.room.two_entries in
    let within : n % lane.entries < length lane.ring = let small : n % lane.entries < lane.entries = mod-lt n (omega arith) in omega arith in
    let slot : Slot = with_fields (lane_slot_of lane n) n entry (fields_of entry) in
    let version : slot.ver ≡ table_header_of n % 2 ^ 32 = fields_give_version (lane_slot_of lane n) n entry ∙ sym (mod-mod n (2 ^ 32)) ∙ sym (add-mod_left (2 ^ 32) (n % 2 ^ 32)) in
    let next : Lane = record lane { flight = split.0 ++ split.1; ring = ring_with lane n slot } in
    let runs : LaneRuns (header_steps n entry) lane next =
    subst (λ (ds : List Write). LaneRuns (map Land ds) lane next) (sym (data_is_fields n entry)) (land_fields (fields_of entry) lane n split.0 split.1 front within) in (
      next,
      runs,
      record {
        law = runs_keep (header_steps n entry) lane next runs h.law;
        of = record { entries = h.of.entries; largest = h.of.largest; up = h.of.up; todo = h.of.todo; small = h.of.small };
        parts = record {
          entries = h.parts.entries;
          whole = h.parts.whole;
          flight = sym split.3;
          copied = h.parts.copied;
          stage = h.parts.stage;
          given_back = h.parts.given_back;
        };
        posted = h.posted;
        headers = header_stored N m.words.headers m.mover.flagged j n m.mover.stored is (omega arith) (omega (arith, o.taken, o.sent, o.claimed)) words_long h.headers;
        ring = subst (λ (at : ℕ). RingStands next.ring (set m.words.headers (n % at) (table_header_of n)) m.words.flags) entries
            (ring_stores_header lane.ring m.words.headers m.words.flags (n % lane.entries) slot (table_header_of n) version (fields_keep_flags (fields_of entry) (lane_slot_of lane n) n entry) h.ring);
        index = h.index;
        link = h.link;
        seen_cut = h.seen_cut;
        holding = record { frames = h.holding.frames; within = h.holding.within; marks = length-set m.mover.stored j true ∙ h.holding.marks };
        receiving = h.receiving;
        room = h.room;
        places = h.places;
      },
    )

-- the flags of the first held entry are stored, and its slot is at home with its frame
pub stores_flag : StoresFlag
stores_flag N m slots frame held stored has marked h =
    let o = in_order N m slots h in
    let k = borders_in m in
    let n : ℕ = m.mover.flagged in
    let lane : Lane = m.lane in
    let count : length lane.sent ≡ length m.send.sent = ap length h.parts.entries ∙ length-map m.send.sent entry_of_frame in
    let long : length m.mover.held ≡ suc (length held) = ap length has in
    let long_marks : length m.mover.stored ≡ suc (length stored) = ap length marked in
    let below : n < length m.send.sent = omega (arith, o.taken) in
    let entry : Entry = entry_of lane n in
    let is_frame : entry ≡ entry_of_frame (get_or m.send.sent n []) = ap (λ es. get_or es n GoesDown) h.parts.entries ∙ entry_is_frame m.send.sent n below in
    let same_frame : frame ≡ get_or m.send.sent n [] =
    ap (λ fs. get_or fs 0 []) (sym has) ∙ h.holding.frames 0 (omega arith) ∙ ap (λ (i : ℕ). get_or m.send.sent i []) (let e : n + 0 ≡ n = omega arith in e) in
    let rest : List Write = table_in_flight (suc n) stored (drop (suc n) lane.sent) in
    let below_lane : n < length lane.sent = omega arith in
    let front : lane.flight ≡ Flag n ∷ Bell ∷ rest =
    h.parts.flight ∙ (λ i. table_in_flight n (marked i) (drop-cons lane.sent n GoesDown below_lane i)) in
    let entries = h.of.entries in
    let whole = h.parts.whole in
    let slot : Slot = with_flags (lane_slot_of lane n) (flags_of entry) in
    let next : Lane = record lane { flight = rest; ring = ring_with lane n slot; flagged = lane.flagged + 1 } in
    let after : Borders = record k { flagged = n + 1; taken = n + 1 + length held } in
    let same_taken : after.taken ≡ k.taken = omega arith in
    let low : m.back.freed ≤ n = omega arith in
    let l0 : nat_lt n k.cleared ≡ false = le-ltb n k.cleared (omega arith) in
    let l1 : nat_lt n k.looked ≡ false = le-ltb n k.looked (omega arith) in
    let runs : LaneRuns (flag_steps n) lane next = land_flag_and_bell lane n rest front in (
      next,
      runs,
      record {
        law = runs_keep (flag_steps n) lane next runs h.law;
        of = record { entries = h.of.entries; largest = h.of.largest; up = h.of.up; todo = h.of.todo; small = h.of.small };
        parts = record {
          entries = h.parts.entries;
          whole = omega arith;
          flight = ap (λ (i : ℕ). table_in_flight i stored (drop i lane.sent)) (let e : suc n ≡ n + 1 = omega arith in e);
          copied = h.parts.copied;
          stage = h.parts.stage;
          given_back = h.parts.given_back;
        };
        posted = h.posted;
        headers = headers_flagged N m.words.headers n stored (subst (λ (marks : List Bool). HeadersStand N m.words.headers n marks) marked h.headers);
        ring = subst (λ (at : ℕ). RingStands next.ring m.words.headers (set m.words.flags (n % at) done)) entries
            (ring_stores_flag lane.ring m.words.headers m.words.flags (n % lane.entries) slot done refl (ap flags_of is_frame) h.ring);
        index = h.index;
        link = h.link;
        seen_cut = h.seen_cut;
        holding = record {
          frames = λ j low_j.
              ap (λ fs. get_or fs (suc j) []) (sym has) ∙ h.holding.frames (suc j) (omega arith) ∙ ap (λ (i : ℕ). get_or m.send.sent i []) (let e : n + suc j ≡ n + 1 + j = omega arith in e);
          within = let w = h.holding.within in omega arith;
          marks = let w = h.holding.marks in omega arith;
        };
        receiving = h.receiving;
        room = h.room;
        places = slot_changes N k after m.send.sent m.send.sent slots n (some (Some frame)) (omega (arith, o.two)) h.places refl low (omega arith)
            (λ j other. let past = moves_past j n other in λ i. slot_by (nat_lt j k.cleared) (nat_lt j k.looked) (past i) (nat_lt j (same_taken i)) (nat_lt j k.sent) (nat_lt j k.claimed) (full m.send.sent j))
            (slot_is after m.send.sent n l0 l1 (lt-ltb n (n + 1) (omega arith)) refl refl refl ∙ ap (λ (f : TableBytes). some (Some f)) (sym same_frame));
      },
    )
