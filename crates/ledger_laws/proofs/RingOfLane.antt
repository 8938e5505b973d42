-- The ring that the log leaves of a lane. While the receiver is up the law of the ring holds of the lane, with the
-- index word read as the tail. While the sender is up the index word is the tail.
use Rattle.std.proofs.Common.{◌≡◌, ℕ, zero, suc, ◌+◌, ◌-◌, ◌%◌, ◌<◌, ◌≤◌, ◌==◌, Bool, true, false, Option, Some, None, List, [], ◌∷◌, ◌++◌, length, map, take, drop, refl, sym, ap, ◌∙◌, subst, inl, inr, arith, mod-lt, length-set, get_or-set_same, get_or-set_other}
use Rattle.std.specs.Prelude.{if◌then◌else◌, slice_index_or, slice_set, remove, nat_lt}
use Rattle.std.specs.List.{AllByRecursion}
use Rattle.std.proofs.Math.Nat.{mod-eq_of_lt}
use Rattle.std.proofs.lemmas.Bool.{false≢true, both_ways, cases_eq, cases_Bool, eqb-false, cond-true, cond-false}
use Rattle.std.proofs.lemmas.List.{length-append}
use Rattle.std.proofs.lemmas.List.Elements.{filter_map-append}
use Rattle.step_kinds.specs.Bits.{with_bit}
use Rattle.step_kinds.specs.declared.names.LaneName.{LaneName}
use Rattle.step_kinds.specs.declared.names.Side.{Side}
use Rattle.step_kinds.specs.declared.plan.PairPlan.{PairPlan}
use Rattle.step_kinds.specs.declared.plan.Plan.{Plan}
use Rattle.step_kinds.specs.declared.steps.Label.{Label}
use Rattle.step_kinds.specs.declared.steps.Label.TheVariants.{Bell, Index, Pad}
use Rattle.lane_model.specs.Lane.{Entry, GoesDown, Slot, Lane, blank_slot, bytes_of, chunks_in, with_flags, entry_of}
use Rattle.lane_model.specs.Law.{HoldsRingLaw}
use Rattle.lane_model.specs.Ring.{tail_of}
use Rattle.lane_model.specs.Steps.{after_begin, after_landing, after_index, more_to_copy}
use Rattle.lane_model.specs.declared.Field.{Field}
use Rattle.lane_model.specs.declared.Phase.{Phase}
use Rattle.lane_model.specs.declared.Phase.TheVariants.{Idle, Copying, Copied, Cleared}
use Rattle.lane_model.specs.declared.Write.{Write}
use Rattle.lane_model.specs.declared.Write.TheVariants.{Data, Flag as EntryFlag, Bell as QueueBell}
use Rattle.lane_laws.proofs.Facade.{empty_holds, cut_keeps, drop_keeps, forget_keeps, free_is_room, begin_keeps, post_keeps, land_data_keeps, land_flag_keeps, land_bell_keeps, look_keeps, copy_keeps, clear_keeps, ack_keeps, index_keeps, tail_after}
use Rattle.ledger_model.specs.Labels.{labels_of, write_of, label_index_of, writes_among, indexes_among}
use Rattle.ledger_model.specs.Ledger.{LanePart}
use Rattle.ledger_model.specs.Log.{Answered}
use Rattle.ledger_model.specs.Receiving.{is_idle, is_copying, is_copied, is_cleared}
use Rattle.ledger_model.specs.Rings.{RingPart, ledger_lane_shown, without_header}
use Rattle.pair_model.specs.Link.{is_up, is_down}
use Rattle.pair_model.specs.Pads.{links_pad}
use Rattle.pair_model.specs.Sizes.{Sizes}
use Rattle.ledger_laws.specs.Rings.{with_tail}
use Rattle.ledger_laws.proofs.AtStart.{up-not_down, down-not_up, closing-not_up}
use Rattle.ledger_laws.proofs.CleanSides.{not_down_with}
use Rattle.ledger_laws.proofs.EntriesFit.{AreOpen, IsPieceWithin, FitsOf, IsUnderWay, LeavesOf, cut_within}
use Rattle.ledger_laws.proofs.FreshLanes.{IsFreshLane, SidesKnown, both_up, late_up, one_late, no_write, own_index}
use Rattle.ledger_laws.proofs.InFlight.{first_none, first_some, middle_some, filter_map-remove, posted_unread, posted_read, split_whole, lands_first}
use Rattle.ledger_laws.proofs.Labels.{writes_among-labels, flag_strict, bell_strict, index_strict, writes_one_class, indexes_one_class}
use Rattle.ledger_laws.proofs.Offers.{pad-write, pad-index}
use Rattle.ledger_laws.proofs.walk.Sight.{Sight, Sender, Receiver, flight_with}
use Rattle.ledger_laws.proofs.walk.News.{News, ring_landed, ring_checked, ring_cleared}
use Rattle.ledger_laws.proofs.walk.Turn.{MayLand, Turn, Trains, Breaks, Drops, Forgets, Offers, Checks, Readies, Begins, Closes, Posts, PostsNext, Strays, Says, LandsFlag, LandsField, LandsIndex, LandsBell, LandsPad, LandsAside, Looks, CopiesPart, CopiesEntry, CopiesLast, Clears, Acks, IsRaw, SizesOf, picked}

-- the lane that is shown, with its index word read as the tail
abbrev pub tailed : Sizes → ℕ → Bool → List Write → List ℕ → LanePart → RingPart → Lane
tailed sizes q up writes indexes lane ring = ledger_lane_shown sizes q up writes indexes lane (with_tail sizes lane ring)

abbrev pub LawBy : Sizes → ℕ → Bool → Bool → List Write → List ℕ → LanePart → RingPart → Type 0
LawBy sizes q up receiver_up writes indexes lane ring = receiver_up ≡ true → HoldsRingLaw (tailed sizes q up writes indexes lane ring)

abbrev pub LawOf : Sizes → ℕ → Sight → RingPart → Type 0
LawOf sizes q s ring = LawBy sizes q (is_up s.state) s.receiver.up (writes_among q s.sender.flight) (indexes_among q s.receiver.flight) s.lane ring

-- the index word is the tail
abbrev pub WordOf : Sizes → Sight → RingPart → Type 0
WordOf sizes s ring = s.sender.up ≡ true → ring.index_word ≡ tail_of sizes.entries s.lane.freed

-- the ring has its slots, each with room for the largest payload
pub record IsSized (sizes : Sizes) (ring : List Slot) : Type 0 where
  pub slots : length ring ≡ sizes.entries
  pub rooms : (k : ℕ) → k < sizes.entries → length (slice_index_or ring k blank_slot).payload ≡ sizes.largest

sized_by_law : (sizes : Sizes) (ring : List Slot) (lane : Lane) → lane.entries ≡ sizes.entries → lane.largest ≡ sizes.largest → lane.ring ≡ ring → HoldsRingLaw lane → IsSized sizes ring
sized_by_law sizes ring lane entries largest same law = record {
  slots = ap length (sym same) ∙ law.2.room.slots ∙ entries;
  rooms = λ k below. ap (λ xs. length (slice_index_or xs k blank_slot).payload) (sym same) ∙ law.2.room.rooms k (subst (λ n. k < n) (sym entries) below) ∙ largest;
}

-- What is shown of a ring's slots

zeroed_flags : (ring : List Slot) (k : ℕ) → (slice_index_or (map without_header ring) k blank_slot).flags ≡ 0
zeroed_flags [] k = refl
zeroed_flags (slot ∷ ring) zero = refl
zeroed_flags (slot ∷ ring) (suc k) = zeroed_flags ring k

zeroed_payload : (ring : List Slot) (k : ℕ) → (slice_index_or (map without_header ring) k blank_slot).payload ≡ (slice_index_or ring k blank_slot).payload
zeroed_payload [] k = refl
zeroed_payload (slot ∷ ring) zero = refl
zeroed_payload (slot ∷ ring) (suc k) = zeroed_payload ring k

length-zeroed : (ring : List Slot) → length (map without_header ring) ≡ length ring
length-zeroed [] = refl
length-zeroed (slot ∷ ring) = ap suc (length-zeroed ring)

zeroed_sized : (sizes : Sizes) (ring : List Slot) → IsSized sizes ring → IsSized sizes (map without_header ring)
zeroed_sized sizes ring sized = record { slots = length-zeroed ring ∙ sized.slots; rooms = λ k below. ap length (zeroed_payload ring k) ∙ sized.rooms k below }

-- a slot whose flags are cleared has its room
cleared_sized : (sizes : Sizes) (ring : RingPart) (n : ℕ) → 2 ≤ sizes.entries → IsSized sizes ring.ring → IsSized sizes (ring_cleared n sizes ring).ring
cleared_sized sizes ring n two sized =
    let place : ℕ = n % sizes.entries in
    let slot : Slot = with_flags (slice_index_or ring.ring place blank_slot) 0 in
    let small : place < sizes.entries = mod-lt n (omega arith) in
    let inside : place < length ring.ring = omega (arith, sized.slots) in
    record {
      slots = length-set ring.ring place slot ∙ sized.slots;
      rooms = λ k below. elim (cases_eq k place) [
        | inl same ↦
            ap (λ j. length (slice_index_or (slice_set ring.ring place slot) j blank_slot).payload) same
            ∙ ap (λ p. length p.payload) (get_or-set_same ring.ring place slot blank_slot inside) ∙ sized.rooms place small
        | inr apart ↦ ap (λ p. length p.payload) (get_or-set_other ring.ring place k slot blank_slot apart) ∙ sized.rooms k below
      ];
    }

-- If no entry was given back, the tail of a ring of two slots or more is its last slot.
pub tail_at_start : (entries : ℕ) → 2 ≤ entries → entries - 1 ≡ tail_of entries 0
tail_at_start entries two =
    let e : 0 + entries - 1 ≡ entries - 1 = omega arith in
    let below : entries - 1 < entries = omega arith in
    let less : (entries - 1) % entries ≡ entries - 1 = mod-eq_of_lt below in
    sym (ap (λ k. k % entries) e ∙ less)

-- The law holds of a fresh lane whose slots have no flags
pub law_at_start : (sizes : Sizes) (q : ℕ) (up : Bool) (writes : List Write) (indexes : List ℕ) (lane : LanePart) (ring : RingPart) → 2 ≤ sizes.entries → IsSized sizes ring.ring
    → IsFreshLane writes indexes lane → ((k : ℕ) → (slice_index_or ring.ring k blank_slot).flags ≡ 0) → HoldsRingLaw (tailed sizes q up writes indexes lane ring)
law_at_start sizes q up writes indexes lane ring two sized fresh no_flags =
    subst (λ (l : LanePart). HoldsRingLaw (tailed sizes q up writes indexes l ring)) (sym fresh.fresh)
    (empty_holds sizes.entries sizes.largest (tail_of sizes.entries 0) up ring.ring writes indexes two sized.slots
    (λ k below. subst (λ j. length (slice_index_or ring.ring j blank_slot).payload ≡ sizes.largest) (sym (mod-eq_of_lt below)) (sized.rooms k below))
    (λ k. no_flags (k % sizes.entries)) refl fresh.no_writes fresh.no_indexes)

-- Changes of a lane of which the law speaks

-- A phase that passes the test for idle is `Idle`.
pub phase_idle : (phase : Phase) → is_idle phase ≡ true → phase ≡ Idle
phase_idle Idle e = refl
phase_idle phase e = absurd (false≢true e)

-- A phase that passes the test for copying is `Copying`.
pub phase_copying : (phase : Phase) → is_copying phase ≡ true → phase ≡ Copying
phase_copying Copying e = refl
phase_copying phase e = absurd (false≢true e)

-- A phase that passes the test for copied is `Copied`.
pub phase_copied : (phase : Phase) → is_copied phase ≡ true → phase ≡ Copied
phase_copied Copied e = refl
phase_copied phase e = absurd (false≢true e)

-- A phase that passes the test for cleared is `Cleared`.
pub phase_cleared : (phase : Phase) → is_cleared phase ≡ true → phase ≡ Cleared
phase_cleared Cleared e = refl
phase_cleared phase e = absurd (false≢true e)

module _ (sizes : Sizes) (q : ℕ) (s : Sight) (ring : RingPart) where
  abbrev Writes : List Write
  Writes = writes_among q s.sender.flight

  abbrev Indexes : List ℕ
  Indexes = indexes_among q s.receiver.flight

  -- the lane as it is, and with other lists in flight, another part and another ring, on the same link
  abbrev Before : Lane
  Before = tailed sizes q (is_up s.state) Writes Indexes s.lane ring

  abbrev With : List Write → List ℕ → LanePart → RingPart → Lane
  With writes indexes lane after = tailed sizes q (is_up s.state) writes indexes lane after

  -- lists in flight that show the same of the lane
  out_alike : (flight : List Label) → writes_among q flight ≡ Writes → HoldsRingLaw Before → HoldsRingLaw (With (writes_among q flight) Indexes s.lane ring)
  out_alike flight same law = subst (λ writes. HoldsRingLaw (With writes Indexes s.lane ring)) (sym same) law

  back_alike : (flight : List Label) → indexes_among q flight ≡ Indexes → HoldsRingLaw Before → HoldsRingLaw (With Writes (indexes_among q flight) s.lane ring)
  back_alike flight same law = subst (λ indexes. HoldsRingLaw (With Writes indexes s.lane ring)) (sym same) law

  -- a write that isn't the lane's is posted
  out_posted : (label : Label) → write_of q label ≡ None → HoldsRingLaw Before → HoldsRingLaw (With (writes_among q (flight_with s.state s.sender.flight label)) Indexes s.lane ring)
  out_posted label none = out_alike (flight_with s.state s.sender.flight label) (posted_unread (write_of q) s.state s.sender.flight label none)

  back_posted : (label : Label) → label_index_of q label ≡ None → HoldsRingLaw Before → HoldsRingLaw (With Writes (indexes_among q (flight_with s.state s.receiver.flight label)) s.lane ring)
  back_posted label none = back_alike (flight_with s.state s.receiver.flight label) (posted_unread (label_index_of q) s.state s.receiver.flight label none)

  -- The sender

  -- an entry is begun, and others wait
  begins : (entry : Entry) (others : ℕ) → 2 ≤ sizes.entries → s.lane.todo ≡ [] → (0 < sizes.entries → length (s.lane.sent ++ entry ∷ []) + others + 1 ≤ s.lane.freed + sizes.entries)
      → length (bytes_of entry) ≤ sizes.largest → AreOpen s.lane.sent → HoldsRingLaw Before
      → HoldsRingLaw (record Before { sent = s.lane.sent ++ entry ∷ []; todo = writes_among q (labels_of q (length s.lane.sent) entry) })
  begins entry others two not_busy room fits all law =
      let free = free_is_room Before law in
      let more = length-append s.lane.sent (entry ∷ []) in
      let some = room (omega arith) in
      let low : s.lane.freed ≤ length s.lane.sent = omega (arith, law.2.counts.freed_first, law.2.counts.acked_first, law.2.counts.cleared_first, law.2.counts.got_first, law.2.counts.flagged_first) in
      subst (λ writes. HoldsRingLaw (record (after_begin Before entry) { todo = writes })) (sym (writes_among-labels q (length s.lane.sent) entry))
      (begin_keeps Before entry (ap (writes_among q) not_busy) (omega (arith, free, more, some, low)) fits all law)

  -- the next write of a lane is posted, on a link that is up and on one that isn't
  posts : (lane : LanePart) (label : Label) (rest : List Label) → lane.todo ≡ label ∷ rest → HoldsRingLaw (With Writes Indexes lane ring)
      → HoldsRingLaw (With (writes_among q (flight_with s.state s.sender.flight label)) Indexes (record lane { todo = rest }) ring)
  posts lane label rest next = go (write_of q label) refl
    where
      go : (write : Option Write) → write_of q label ≡ write → HoldsRingLaw (With Writes Indexes lane ring)
          → HoldsRingLaw (With (writes_among q (flight_with s.state s.sender.flight label)) Indexes (record lane { todo = rest }) ring)
      go (Some write) e law =
          subst (λ writes. HoldsRingLaw (With writes Indexes (record lane { todo = rest }) ring)) (sym (posted_read (write_of q) s.state s.sender.flight label write e))
          (post_keeps (With Writes Indexes lane ring) write (writes_among q rest) (ap (writes_among q) next ∙ first_some (write_of q) label rest write e) law)
      go None e law =
          subst (λ writes. HoldsRingLaw (With writes Indexes (record lane { todo = rest }) ring)) (sym (posted_unread (write_of q) s.state s.sender.flight label e))
          (subst (λ writes. HoldsRingLaw (record (With Writes Indexes lane ring) { todo = writes })) (ap (writes_among q) next ∙ first_none (write_of q) label rest e) law)

  -- Landing

  module _ (place : ℕ) {own : PairPlan} {side : Side} where
    apart : (label : Label) (write : Write) → MayLand own side s Sender place label → write_of q label ≡ Some write
        → Writes ≡ writes_among q (take place s.sender.flight) ++ write ∷ writes_among q (drop (suc place) s.sender.flight)
    apart label write may e =
        ap (writes_among q) (split_whole s.sender.flight place label may.there)
        ∙ middle_some (write_of q) (take place s.sender.flight) (drop (suc place) s.sender.flight) label write e

    field_lands : (label : Label) (n : ℕ) (field : Field) → MayLand own side s Sender place label → write_of q label ≡ Some (Data n field) → HoldsRingLaw Before
        → HoldsRingLaw (With (writes_among q (remove s.sender.flight place)) Indexes s.lane (ring_landed s.lane (Data n field) sizes ring))
    field_lands label n field may e law =
        subst (λ writes. HoldsRingLaw (record (after_landing Before (Data n field) []) { flight = writes }))
        (sym (filter_map-append (write_of q) (take place s.sender.flight) (drop (suc place) s.sender.flight)))
        (land_data_keeps Before n field (writes_among q (take place s.sender.flight)) (writes_among q (drop (suc place) s.sender.flight)) (apart label (Data n field) may e) law)

    flag_lands : (label : Label) (n : ℕ) → MayLand own side s Sender place label → write_of q label ≡ Some (EntryFlag n) → HoldsRingLaw Before
        → HoldsRingLaw (With (writes_among q (remove s.sender.flight place)) Indexes (record s.lane { flagged = s.lane.flagged + 1 }) (ring_landed s.lane (EntryFlag n) sizes ring))
    flag_lands label n may e =
        land_flag_keeps Before n (writes_among q (remove s.sender.flight place))
        (lands_first (write_of q) own side label (flag_strict q own.strict label n e) (writes_one_class own side q label (EntryFlag n) e) s Sender place (EntryFlag n) may e)

    bell_lands : (queue : ℕ) → MayLand own side s Sender place (Bell queue) → HoldsRingLaw Before → HoldsRingLaw (With (writes_among q (remove s.sender.flight place)) Indexes s.lane ring)
    bell_lands queue may law = elim (cases_Bool (queue == q)) [
      | inl is ↦
          let own_bell : write_of q (Bell queue) ≡ Some QueueBell = cond-true (queue == q) (Some QueueBell) None is in
          land_bell_keeps Before (writes_among q (remove s.sender.flight place))
          (lands_first (write_of q) own side (Bell queue) (bell_strict own.strict queue) (writes_one_class own side q (Bell queue) QueueBell own_bell) s Sender place QueueBell may own_bell) law
      | inr other ↦
          out_alike (remove s.sender.flight place) (filter_map-remove (write_of q) s.sender.flight place (Bell queue) may.there (cond-false (queue == q) (Some QueueBell) None other)) law
    ]

    out_without : (label : Label) → MayLand own side s Sender place label → write_of q label ≡ None → HoldsRingLaw Before → HoldsRingLaw (With (writes_among q (remove s.sender.flight place)) Indexes s.lane ring)
    out_without label may none = out_alike (remove s.sender.flight place) (filter_map-remove (write_of q) s.sender.flight place label may.there none)

    back_without : (label : Label) → MayLand own side s Receiver place label → label_index_of q label ≡ None → HoldsRingLaw Before
        → HoldsRingLaw (With Writes (indexes_among q (remove s.receiver.flight place)) s.lane ring)
    back_without label may none = back_alike (remove s.receiver.flight place) (filter_map-remove (label_index_of q) s.receiver.flight place label may.there none)

    index_lands : (n : ℕ) → 2 ≤ sizes.entries → MayLand own side s Receiver place (Index q n) → HoldsRingLaw Before
        → HoldsRingLaw (With Writes (indexes_among q (remove s.receiver.flight place)) (record s.lane { freed = n + 1 }) ring)
    index_lands n two may law =
        let rest = indexes_among q (remove s.receiver.flight place) in
        subst (λ word. HoldsRingLaw (record (after_index Before n rest) { index_word = word })) (tail_after sizes.entries n two)
        (index_keeps Before n rest
        (lands_first (label_index_of q) own side (Index q n) (index_strict own.strict q n) (indexes_one_class own side q (Index q n) n (own_index q n)) s Receiver place n may (own_index q n)) law)

  -- The receiver

  looks : is_idle s.lane.phase ≡ true → (s.lane.flagged == s.lane.got) ≡ false → HoldsRingLaw Before → HoldsRingLaw (record Before { phase = Copying; part = 0 })
  looks turn some law = look_keeps Before (phase_idle s.lane.phase turn) (less s.lane.got s.lane.flagged law.2.counts.got_first (eqb-false s.lane.flagged s.lane.got some)) law
    where
      less : (a b : ℕ) → a ≤ b → (b ≡ a → ⊥) → a < b
      less a b low ne = elim (cases_eq b a) [ inl same ↦ absurd (ne same) | inr other ↦ omega arith ]

  -- the receiver goes by the length that it found, which is the entry's
  more_found : (more : Bool) → nat_lt (s.lane.part + 1) (chunks_in s.lane.len) ≡ more → IsUnderWay s.lane.sent s.lane.got s.lane.len → more_to_copy Before ≡ more
  more_found more is entry =
      let same : length (bytes_of (entry_of Before s.lane.got)) ≡ s.lane.len = ap (λ e. length (bytes_of e)) entry.there ∙ entry.size in
      ap (λ n. nat_lt (s.lane.part + 1) (chunks_in n)) same ∙ is

  copies : (more : Bool) → nat_lt (s.lane.part + 1) (chunks_in s.lane.len) ≡ more → is_copying s.lane.phase ≡ true → IsUnderWay s.lane.sent s.lane.got s.lane.len → HoldsRingLaw Before
      → HoldsRingLaw (if more then record Before { part = s.lane.part + 1 } else record Before { got = s.lane.got + 1; phase = Copied })
  copies more is turn entry law =
      subst HoldsRingLaw (ap (λ b. if b then record Before { part = s.lane.part + 1 } else record Before { got = s.lane.got + 1; phase = Copied }) (more_found more is entry))
      (copy_keeps Before (phase_copying s.lane.phase turn) law)

  acks : is_cleared s.lane.phase ≡ true → HoldsRingLaw Before
      → HoldsRingLaw (With Writes (indexes_among q (flight_with s.state s.receiver.flight (Index q s.lane.acked))) (record s.lane { acked = s.lane.acked + 1; phase = Idle }) ring)
  acks turn law =
      subst (λ indexes. HoldsRingLaw (With Writes indexes (record s.lane { acked = s.lane.acked + 1; phase = Idle }) ring))
      (sym (posted_read (label_index_of q) s.state s.receiver.flight (Index q s.lane.acked) s.lane.acked (own_index q s.lane.acked)))
      (ack_keeps Before (phase_cleared s.lane.phase turn) law)

-- Each turn

-- a side that a train finds isn't up
pub new_at_train : (s : Sight) (q : ℕ) → is_down s.state ≡ true → s.sender.enabled ≡ true → s.receiver.enabled ≡ true → SidesKnown q s → (s.sender.up ≡ false) × (s.receiver.up ≡ false)
new_at_train s q down own peer sides = (
  (sides.settled.0.new_once_clean down (sides.settled.0.clean_once_enabled down own)).not_up,
  (sides.settled.1.new_once_clean down (sides.settled.1.clean_once_enabled down peer)).not_up,
)

-- On an ordinary pair turns keep the law of a lane's ring while the receiver is up, with the tail for index word.
pub law_kept : (plan : Plan) (lane : LaneName) (s : Sight) (made : Answered) (news : News) (t : Sight) (ring : RingPart) → 2 ≤ (SizesOf plan lane).entries → IsRaw plan lane ≡ false
    → Turn plan lane s made news t → SidesKnown lane.queue s → FitsOf (SizesOf plan lane).largest lane.queue s → LeavesOf (SizesOf plan lane).entries t → IsSized (SizesOf plan lane) ring.ring
    → LawOf (SizesOf plan lane) lane.queue s ring → LawOf (SizesOf plan lane) lane.queue t (news.ring (SizesOf plan lane) ring)
law_kept plan lane s made news t ring two no_raw (Trains may) sides fits leaves sized h up =
    absurd (both_ways s.receiver.up (new_at_train s lane.queue may.down may.sender may.receiver sides).1 up)
law_kept plan lane s made news t ring two no_raw (Breaks may) sides fits leaves sized h up = cut_keeps (Before (SizesOf plan lane) lane.queue s ring) (h up)
law_kept plan lane s made news t ring two no_raw (Drops may) sides fits leaves sized h up =
    let lost = closing-not_up s.state may.closing in
    subst (λ b. HoldsRingLaw (tailed (SizesOf plan lane) lane.queue b [] [] s.lane ring)) lost (drop_keeps (Before (SizesOf plan lane) lane.queue s ring) lost (h up))
law_kept plan lane s made news t ring two no_raw (Forgets Sender may) sides fits leaves sized h up =
    forget_keeps (Before (SizesOf plan lane) lane.queue s ring) (down-not_up s.state may.down) (h up)
law_kept plan lane s made news t ring two no_raw (Forgets Receiver may) sides fits leaves sized h up = absurd (false≢true up)
law_kept plan lane s made news t ring two no_raw (Offers Sender label may) sides fits leaves sized h up =
    out_posted (SizesOf plan lane) lane.queue s ring label (pad-write lane.queue label may.a_pad) (h up)
law_kept plan lane s made news t ring two no_raw (Offers Receiver label may) sides fits leaves sized h up =
    back_posted (SizesOf plan lane) lane.queue s ring label (pad-index lane.queue label may.a_pad) (h up)
law_kept plan lane s made news t ring two no_raw (Checks Sender may) sides fits leaves sized h up = h up
law_kept plan lane s made news t ring two no_raw (Checks Receiver may) sides fits leaves sized h up =
    law_at_start (SizesOf plan lane) lane.queue (is_up s.state) _ _ s.lane (ring_checked Receiver (SizesOf plan lane) ring) two (zeroed_sized (SizesOf plan lane) ring.ring sized)
    (sides.fresh (inr (late_up s.state (up-not_down s.state may.up) may.not_yet))) (zeroed_flags ring.ring)
law_kept plan lane s made news t ring two no_raw (Readies Sender queue may) sides fits leaves sized h up =
    out_posted (SizesOf plan lane) lane.queue s ring (Pad links_pad (with_bit s.sender.ready queue)) refl (h up)
law_kept plan lane s made news t ring two no_raw (Readies Receiver queue may) sides fits leaves sized h up =
    back_posted (SizesOf plan lane) lane.queue s ring (Pad links_pad (with_bit s.receiver.ready queue)) refl (h up)
law_kept plan lane s made news t ring two no_raw (Begins bytes first others may cut) sides fits leaves sized h up =
    begins (SizesOf plan lane) lane.queue s ring first (length others) two may.not_busy leaves (cut_within (SizesOf plan lane).largest bytes first others cut).0.1
    (fits.open_yet (up-not_down s.state may.up) may.not_closed) (h up)
law_kept plan lane s made news t ring two no_raw (Closes may) sides fits leaves sized h up =
    begins (SizesOf plan lane) lane.queue s ring GoesDown 0 two may.not_busy leaves (omega arith) (fits.open_yet (up-not_down s.state may.up) may.not_closed) (h up)
law_kept plan lane s made news t ring two no_raw (Posts label rest may) sides fits leaves sized h up = posts (SizesOf plan lane) lane.queue s ring s.lane label rest may.next (h up)
law_kept plan lane s made news t ring two no_raw (PostsNext entry others label rest may) sides fits leaves sized h up =
    let some : 0 < length s.lane.waiting = subst (λ waiting. 0 < length waiting) (sym may.waits) (omega arith) in
    let pieces = subst (AllByRecursion (IsPieceWithin (SizesOf plan lane).largest)) may.waits fits.waiting_fit in
    posts (SizesOf plan lane) lane.queue s ring (picked lane.queue s.lane entry others) label rest may.next
    (begins (SizesOf plan lane) lane.queue s ring entry (length others) two may.idle leaves pieces.0.1 (fits.open_waiting some) (h up))
law_kept plan lane s made news t ring two no_raw (Strays after may) sides fits leaves sized h up = absurd (both_ways (IsRaw plan lane) no_raw may.raw_pair)
law_kept plan lane s made news t ring two no_raw (Says Sender label may) sides fits leaves sized h up = out_posted (SizesOf plan lane) lane.queue s ring label may.foreign (h up)
law_kept plan lane s made news t ring two no_raw (Says Receiver label may) sides fits leaves sized h up = back_posted (SizesOf plan lane) lane.queue s ring label may.foreign (h up)
law_kept plan lane s made news t ring two no_raw (LandsFlag place label n may) sides fits leaves sized h up = flag_lands (SizesOf plan lane) lane.queue s ring place label n may.land may.is (h up)
law_kept plan lane s made news t ring two no_raw (LandsField place label n field may) sides fits leaves sized h up =
    field_lands (SizesOf plan lane) lane.queue s ring place label n field may.land may.is (h up)
law_kept plan lane s made news t ring two no_raw (LandsIndex place n may) sides fits leaves sized h up = index_lands (SizesOf plan lane) lane.queue s ring place n two may (h up)
law_kept plan lane s made news t ring two no_raw (LandsBell Sender place queue may) sides fits leaves sized h up = bell_lands (SizesOf plan lane) lane.queue s ring place queue may (h up)
law_kept plan lane s made news t ring two no_raw (LandsBell Receiver place queue may) sides fits leaves sized h up =
    back_without (SizesOf plan lane) lane.queue s ring place (Bell queue) may refl (h up)
law_kept plan lane s made news t ring two no_raw (LandsPad Sender place i value may) sides fits leaves sized h up =
    out_without (SizesOf plan lane) lane.queue s ring place (Pad i value) may refl (h up)
law_kept plan lane s made news t ring two no_raw (LandsPad Receiver place i value may) sides fits leaves sized h up =
    back_without (SizesOf plan lane) lane.queue s ring place (Pad i value) may refl (h up)
law_kept plan lane s made news t ring two no_raw (LandsAside Sender place label may) sides fits leaves sized h up =
    out_without (SizesOf plan lane) lane.queue s ring place label may.land may.foreign (h up)
law_kept plan lane s made news t ring two no_raw (LandsAside Receiver place label may) sides fits leaves sized h up =
    back_without (SizesOf plan lane) lane.queue s ring place label may.land may.foreign (h up)
law_kept plan lane s made news t ring two no_raw (Looks len left may) sides fits leaves sized h up = looks (SizesOf plan lane) lane.queue s ring may.idle (may.found no_raw).some (h up)
law_kept plan lane s made news t ring two no_raw (CopiesPart bytes may) sides fits leaves sized h up =
    copies (SizesOf plan lane) lane.queue s ring true may.more may.turn (fits.copying may.turn) (h up)
law_kept plan lane s made news t ring two no_raw (CopiesEntry bytes may) sides fits leaves sized h up =
    copies (SizesOf plan lane) lane.queue s ring false may.copy.more may.copy.turn (fits.copying may.copy.turn) (h up)
law_kept plan lane s made news t ring two no_raw (CopiesLast bytes may) sides fits leaves sized h up =
    copies (SizesOf plan lane) lane.queue s ring false may.copy.more may.copy.turn (fits.copying may.copy.turn) (h up)
law_kept plan lane s made news t ring two no_raw (Clears may) sides fits leaves sized h up = clear_keeps (Before (SizesOf plan lane) lane.queue s ring) (phase_copied s.lane.phase may.turn) (h up)
law_kept plan lane s made news t ring two no_raw (Acks may) sides fits leaves sized h up = acks (SizesOf plan lane) lane.queue s ring may.turn (h up)
law_kept plan lane s made news t ring two no_raw turn sides fits leaves sized h up = h up

-- On an ordinary pair each turn keeps the index word at the tail of the entries given back while the sender is up.
pub word_kept : (plan : Plan) (lane : LaneName) (s : Sight) (made : Answered) (news : News) (t : Sight) (ring : RingPart) → 2 ≤ (SizesOf plan lane).entries → IsRaw plan lane ≡ false
    → Turn plan lane s made news t → SidesKnown lane.queue s → WordOf (SizesOf plan lane) s ring → WordOf (SizesOf plan lane) t (news.ring (SizesOf plan lane) ring)
word_kept plan lane s made news t ring two no_raw (Trains may) sides h up =
    absurd (both_ways s.sender.up (new_at_train s lane.queue may.down may.sender may.receiver sides).0 up)
word_kept plan lane s made news t ring two no_raw (Forgets Sender may) sides h up = absurd (false≢true up)
word_kept plan lane s made news t ring two no_raw (Checks Sender may) sides h up =
    let fresh = (sides.fresh (inl (late_up s.state (up-not_down s.state may.up) may.not_yet))).fresh in
    tail_at_start (SizesOf plan lane).entries two ∙ ap (tail_of (SizesOf plan lane).entries) (sym (ap (λ (l : LanePart). l.freed) fresh))
word_kept plan lane s made news t ring two no_raw (Strays after may) sides h up = absurd (both_ways (IsRaw plan lane) no_raw may.raw_pair)
word_kept plan lane s made news t ring two no_raw (LandsIndex place n may) sides h up = tail_after (SizesOf plan lane).entries n two
word_kept plan lane s made news t ring two no_raw turn sides h up = h up

-- a write of the lane in flight means that both sides are up
write_up : (q : ℕ) {own : PairPlan} {side : Side} (s : Sight) (place : ℕ) (label : Label) (write : Write) → MayLand own side s Sender place label → write_of q label ≡ Some write → SidesKnown q s
    → s.receiver.up ≡ true
write_up q s place label write may is sides =
    (both_up s.sender.up s.receiver.up (λ one. no_write q s place label write may is sides.fresh (one_late s.state (not_down_with s Sender place label sides.empty may) one))).1

-- Each turn keeps it so that a lane's ring has all its slots, each with room for the largest payload.
pub sized_kept : (plan : Plan) (lane : LaneName) (s : Sight) (made : Answered) (news : News) (t : Sight) (ring : RingPart) → 2 ≤ (SizesOf plan lane).entries → Turn plan lane s made news t
    → SidesKnown lane.queue s → LawOf (SizesOf plan lane) lane.queue s ring → IsSized (SizesOf plan lane) ring.ring → IsSized (SizesOf plan lane) (news.ring (SizesOf plan lane) ring).ring
sized_kept plan lane s made news t ring two (Checks Sender may) sides h sized = sized
sized_kept plan lane s made news t ring two (Checks Receiver may) sides h sized = zeroed_sized (SizesOf plan lane) ring.ring sized
sized_kept plan lane s made news t ring two (LandsFlag place label n may) sides h sized =
    sized_by_law (SizesOf plan lane) _ _ refl refl refl
    (flag_lands (SizesOf plan lane) lane.queue s ring place label n may.land may.is (h (write_up lane.queue s place label (EntryFlag n) may.land may.is sides)))
sized_kept plan lane s made news t ring two (LandsField place label n field may) sides h sized =
    sized_by_law (SizesOf plan lane) _ _ refl refl refl
    (field_lands (SizesOf plan lane) lane.queue s ring place label n field may.land may.is (h (write_up lane.queue s place label (Data n field) may.land may.is sides)))
sized_kept plan lane s made news t ring two (Clears may) sides h sized = cleared_sized (SizesOf plan lane) ring s.lane.cleared two sized
sized_kept plan lane s made news t ring two turn sides h sized = sized
