-- The steps of the lane's model that each turn is, if the ring is as the log leaves it and both sides are up before and
-- after.
use Rattle.std.proofs.Common.{◌≡◌, ℕ, suc, ◌+◌, ◌<◌, ◌≤◌, ◌==◌, Bool, true, false, Some, None, List, [], ◌∷◌, ◌++◌, length, take, drop, refl, sym, ap, ◌∙◌, subst, inl, inr, arith}
use Rattle.std.specs.Prelude.{if◌then◌else◌, remove, nat_lt}
use Rattle.std.specs.List.{AllByRecursion}
use Rattle.std.proofs.lemmas.Bool.{both_ways, false≢true, cases_eq, cases_Bool, eqb-false, cond-true, cond-false}
use Rattle.std.proofs.lemmas.List.{length-append}
use Rattle.std.proofs.lemmas.List.Elements.{filter_map-append}
use Rattle.step_kinds.specs.Bits.{with_bit}
use Rattle.step_kinds.specs.declared.names.LaneName.{LaneName}
use Rattle.step_kinds.specs.declared.names.Side.{Side}
use Rattle.step_kinds.specs.declared.plan.PairPlan.{PairPlan}
use Rattle.step_kinds.specs.declared.plan.Plan.{Plan}
use Rattle.step_kinds.specs.declared.steps.Label.{Label}
use Rattle.step_kinds.specs.declared.steps.Label.TheVariants.{Chunk, Len, Ver, Flag, Down, Bell, Index, Pad}
use Rattle.lane_model.specs.Lane.{Entry, GoesDown, Lane, bytes_of, chunks_in, entry_of}
use Rattle.lane_model.specs.Law.{HoldsRingLaw}
use Rattle.lane_model.specs.Steps.{after_begin, after_landing, more_to_copy}
use Rattle.lane_model.specs.declared.Field.{Field}
use Rattle.lane_model.specs.declared.Field.TheVariants.{Chunk as PayloadChunk, Length, Version}
use Rattle.lane_model.specs.declared.Phase.TheVariants.{Idle, Copied}
use Rattle.lane_model.specs.declared.Write.{Write}
use Rattle.lane_model.specs.declared.Write.TheVariants.{Data, Flag as EntryFlag, Bell as QueueBell}
use Rattle.lane_laws.proofs.Facade.{free_is_room}
use Rattle.ledger_model.specs.Labels.{labels_of, write_of, label_index_of, writes_among, indexes_among}
use Rattle.ledger_model.specs.Ledger.{LanePart}
use Rattle.ledger_model.specs.Log.{Answered}
use Rattle.ledger_model.specs.Receiving.{is_copying, is_cleared}
use Rattle.ledger_model.specs.Rings.{RingPart, ledger_lane_shown}
use Rattle.pair_model.specs.Link.{is_up}
use Rattle.pair_model.specs.Pads.{links_pad}
use Rattle.pair_model.specs.Sizes.{Sizes}
use Rattle.ledger_laws.specs.LaneChanges.{LaneChange, Unchanged, change_by_write}
use Rattle.lane_model.specs.LaneSteps.{LaneStep, Begin, Post, Land, Look, Copy, Clear, Acknowledge, GiveBack, Cut, Drop, Leads}
use Rattle.ledger_laws.specs.LaneSteps.{AreStepsFor, MovesByLaneSteps}
use Rattle.ledger_laws.proofs.AtStart.{up-not_down, closing-not_up}
use Rattle.ledger_laws.proofs.EntriesFit.{AreOpen, IsPieceWithin, FitsOf, IsUnderWay, LeavesOf, cut_within}
use Rattle.ledger_laws.proofs.FreshLanes.{SidesKnown, own_index}
use Rattle.ledger_laws.proofs.InFlight.{first_some, middle_some, filter_map-remove, posted_unread, posted_read, split_whole, lands_first}
use Rattle.ledger_laws.proofs.Labels.{writes_among-labels, flag_strict, bell_strict, index_strict, writes_one_class, indexes_one_class}
use Rattle.ledger_laws.proofs.Offers.{pad-write, pad-index}
use Rattle.ledger_laws.proofs.RingOfLane.{phase_idle, phase_copying, phase_copied, phase_cleared, new_at_train}
use Rattle.ledger_laws.proofs.walk.Sight.{Sight, Sender, Receiver, flight_with}
use Rattle.ledger_laws.proofs.walk.News.{News, change_heard, ring_landed}
use Rattle.ledger_laws.proofs.walk.Turn.{MayLand, Turn, Trains, Breaks, Drops, Forgets, Offers, Checks, Readies, Begins, Closes, Posts, PostsNext, Strays, Says, LandsFlag, LandsField, LandsIndex, LandsBell, LandsPad, LandsAside, Looks, CopiesPart, CopiesEntry, CopiesLast, Clears, Acks, IsRaw, SizesOf, picked, on_queue}

-- No step, one, and two

stays : {before after : Lane} → after ≡ before → MovesByLaneSteps Unchanged before after
stays same = record { steps = []; are = refl; runs = same }

moves : {change : LaneChange} {before after : Lane} (step : LaneStep) → AreStepsFor change (step ∷ []) → Leads step before after → MovesByLaneSteps change before after
moves {after = after} step are leads = record { steps = step ∷ []; are = are; runs = (after, leads, refl) }

moves_twice : {change : LaneChange} {before after : Lane} (between : Lane) (one other : LaneStep) → AreStepsFor change (one ∷ other ∷ []) → Leads one before between → Leads other between after
    → MovesByLaneSteps change before after
moves_twice {after = after} between one other are first second = record { steps = one ∷ other ∷ []; are = are; runs = (between, first, (after, second, refl)) }

-- a label on the lane's queue writes something of the lane
own_write : (q : ℕ) (label : Label) → on_queue q label ≡ true → (write : Write) × (write_of q label ≡ Some write)
own_write q (Chunk p n part) on = (Data n (PayloadChunk part), cond-true (p == q) (Some (Data n (PayloadChunk part))) None on)
own_write q (Len p n) on = (Data n Length, cond-true (p == q) (Some (Data n Length)) None on)
own_write q (Ver p n) on = (Data n Version, cond-true (p == q) (Some (Data n Version)) None on)
own_write q (Flag p n) on = (EntryFlag n, cond-true (p == q) (Some (EntryFlag n)) None on)
own_write q (Down p n) on = (EntryFlag n, cond-true (p == q) (Some (EntryFlag n)) None on)
own_write q (Bell p) on = (QueueBell, cond-true (p == q) (Some QueueBell) None on)
own_write q label on = absurd (false≢true on)

-- the lane that a sight and a ring show
abbrev pub Shown : Sizes → ℕ → Sight → RingPart → Lane
Shown sizes q s ring = ledger_lane_shown sizes q (is_up s.state) (writes_among q s.sender.flight) (indexes_among q s.receiver.flight) s.lane ring

module _ (sizes : Sizes) (q : ℕ) (s : Sight) (ring : RingPart) where
  abbrev Writes : List Write
  Writes = writes_among q s.sender.flight

  abbrev Indexes : List ℕ
  Indexes = indexes_among q s.receiver.flight

  -- the lane as it is, and with other lists in flight, another part and another ring, on the same link
  abbrev Before : Lane
  Before = Shown sizes q s ring

  abbrev With : List Write → List ℕ → LanePart → RingPart → Lane
  With writes indexes lane after = ledger_lane_shown sizes q (is_up s.state) writes indexes lane after

  -- lists in flight that show the same of the lane
  out_alike : (flight : List Label) → writes_among q flight ≡ Writes → MovesByLaneSteps Unchanged Before (With (writes_among q flight) Indexes s.lane ring)
  out_alike flight same = stays (ap (λ writes. With writes Indexes s.lane ring) same)

  back_alike : (flight : List Label) → indexes_among q flight ≡ Indexes → MovesByLaneSteps Unchanged Before (With Writes (indexes_among q flight) s.lane ring)
  back_alike flight same = stays (ap (λ indexes. With Writes indexes s.lane ring) same)

  -- a write that isn't the lane's is posted
  out_posted : (label : Label) → write_of q label ≡ None → MovesByLaneSteps Unchanged Before (With (writes_among q (flight_with s.state s.sender.flight label)) Indexes s.lane ring)
  out_posted label none = out_alike (flight_with s.state s.sender.flight label) (posted_unread (write_of q) s.state s.sender.flight label none)

  back_posted : (label : Label) → label_index_of q label ≡ None → MovesByLaneSteps Unchanged Before (With Writes (indexes_among q (flight_with s.state s.receiver.flight label)) s.lane ring)
  back_posted label none = back_alike (flight_with s.state s.receiver.flight label) (posted_unread (label_index_of q) s.state s.receiver.flight label none)

  -- The sender

  -- an entry is begun, and others wait
  begins : (entry : Entry) (others : ℕ) → 2 ≤ sizes.entries → s.lane.todo ≡ [] → (0 < sizes.entries → length (s.lane.sent ++ entry ∷ []) + others + 1 ≤ s.lane.freed + sizes.entries)
      → length (bytes_of entry) ≤ sizes.largest → AreOpen s.lane.sent → HoldsRingLaw Before
      → Leads (Begin entry) Before (record Before { sent = s.lane.sent ++ entry ∷ []; todo = writes_among q (labels_of q (length s.lane.sent) entry) })
  begins entry others two not_busy room fits all law =
      let free = free_is_room Before law in
      let more = length-append s.lane.sent (entry ∷ []) in
      let some = room (omega arith) in
      let low : s.lane.freed ≤ length s.lane.sent = omega (arith, law.2.counts.freed_first, law.2.counts.acked_first, law.2.counts.cleared_first, law.2.counts.got_first, law.2.counts.flagged_first) in
      (ap (writes_among q) not_busy, omega (arith, free, more, some, low), fits, all, ap (λ writes. record (after_begin Before entry) { todo = writes }) (writes_among-labels q (length s.lane.sent) entry))

  -- the next write of a lane is posted, on a link that is up and on one that isn't
  posts : (lane : LanePart) (label : Label) (rest : List Label) → lane.todo ≡ label ∷ rest → on_queue q label ≡ true
      → Leads Post (With Writes Indexes lane ring) (With (writes_among q (flight_with s.state s.sender.flight label)) Indexes (record lane { todo = rest }) ring)
  posts lane label rest next on =
      let own = own_write q label on in (
        own.0,
        writes_among q rest,
        ap (writes_among q) next ∙ first_some (write_of q) label rest own.0 own.1,
        ap (λ writes. With writes Indexes (record lane { todo = rest }) ring) (posted_read (write_of q) s.state s.sender.flight label own.0 own.1),
      )

  -- Landing

  module _ (place : ℕ) {own : PairPlan} {side : Side} where
    apart : (label : Label) (write : Write) → MayLand own side s Sender place label → write_of q label ≡ Some write
        → Writes ≡ writes_among q (take place s.sender.flight) ++ write ∷ writes_among q (drop (suc place) s.sender.flight)
    apart label write may e =
        ap (writes_among q) (split_whole s.sender.flight place label may.there)
        ∙ middle_some (write_of q) (take place s.sender.flight) (drop (suc place) s.sender.flight) label write e

    field_lands : (label : Label) (n : ℕ) (field : Field) → MayLand own side s Sender place label → write_of q label ≡ Some (Data n field)
        → Leads (Land (Data n field)) Before (With (writes_among q (remove s.sender.flight place)) Indexes s.lane (ring_landed s.lane (Data n field) sizes ring))
    field_lands label n field may e =
        let ahead = writes_among q (take place s.sender.flight) in
        let behind = writes_among q (drop (suc place) s.sender.flight) in (
          ahead,
          behind,
          apart label (Data n field) may e,
          ap (λ writes. record (after_landing Before (Data n field) []) { flight = writes }) (filter_map-append (write_of q) (take place s.sender.flight) (drop (suc place) s.sender.flight)),
        )

    flag_lands : (label : Label) (n : ℕ) → MayLand own side s Sender place label → write_of q label ≡ Some (EntryFlag n)
        → Leads (Land (EntryFlag n)) Before (With (writes_among q (remove s.sender.flight place)) Indexes (record s.lane { flagged = s.lane.flagged + 1 }) (ring_landed s.lane (EntryFlag n) sizes ring))
    flag_lands label n may e = (
      writes_among q (remove s.sender.flight place),
      lands_first (write_of q) own side label (flag_strict q own.strict label n e) (writes_one_class own side q label (EntryFlag n) e) s Sender place (EntryFlag n) may e,
      refl,
    )

    bell_lands : (queue : ℕ) → MayLand own side s Sender place (Bell queue) → MovesByLaneSteps (change_heard q Sender (Bell queue)) Before (With (writes_among q (remove s.sender.flight place)) Indexes s.lane ring)
    bell_lands queue may = elim (cases_Bool (queue == q)) [
      | inl is ↦
          let own_bell : write_of q (Bell queue) ≡ Some QueueBell = cond-true (queue == q) (Some QueueBell) None is in
          subst (λ change. MovesByLaneSteps change Before (With (writes_among q (remove s.sender.flight place)) Indexes s.lane ring)) (sym (ap change_by_write own_bell))
          (moves (Land QueueBell) refl (
            writes_among q (remove s.sender.flight place),
            lands_first (write_of q) own side (Bell queue) (bell_strict own.strict queue) (writes_one_class own side q (Bell queue) QueueBell own_bell) s Sender place QueueBell may own_bell,
            refl,
          ))
      | inr other ↦
          let none : write_of q (Bell queue) ≡ None = cond-false (queue == q) (Some QueueBell) None other in
          subst (λ change. MovesByLaneSteps change Before (With (writes_among q (remove s.sender.flight place)) Indexes s.lane ring)) (sym (ap change_by_write none))
          (out_alike (remove s.sender.flight place) (filter_map-remove (write_of q) s.sender.flight place (Bell queue) may.there none))
    ]

    out_without : (label : Label) → MayLand own side s Sender place label → write_of q label ≡ None → MovesByLaneSteps Unchanged Before (With (writes_among q (remove s.sender.flight place)) Indexes s.lane ring)
    out_without label may none = out_alike (remove s.sender.flight place) (filter_map-remove (write_of q) s.sender.flight place label may.there none)

    back_without : (label : Label) → MayLand own side s Receiver place label → label_index_of q label ≡ None → MovesByLaneSteps Unchanged Before (With Writes (indexes_among q (remove s.receiver.flight place)) s.lane ring)
    back_without label may none = back_alike (remove s.receiver.flight place) (filter_map-remove (label_index_of q) s.receiver.flight place label may.there none)

    index_first : (n : ℕ) → MayLand own side s Receiver place (Index q n) → Indexes ≡ n ∷ indexes_among q (remove s.receiver.flight place)
    index_first n may =
        lands_first (label_index_of q) own side (Index q n) (index_strict own.strict q n) (indexes_one_class own side q (Index q n) n (own_index q n)) s Receiver place n may (own_index q n)

  -- The receiver

  some_found : (s.lane.flagged == s.lane.got) ≡ false → HoldsRingLaw Before → s.lane.got < s.lane.flagged
  some_found some law = less s.lane.got s.lane.flagged law.2.counts.got_first (eqb-false s.lane.flagged s.lane.got some)
    where
      less : (a b : ℕ) → a ≤ b → (b ≡ a → ⊥) → a < b
      less a b low ne = elim (cases_eq b a) [ inl same ↦ absurd (ne same) | inr other ↦ omega arith ]

  -- the receiver goes by the length that it found, which is the entry's
  more_found : (more : Bool) → nat_lt (s.lane.part + 1) (chunks_in s.lane.len) ≡ more → IsUnderWay s.lane.sent s.lane.got s.lane.len → more_to_copy Before ≡ more
  more_found more is entry =
      let same : length (bytes_of (entry_of Before s.lane.got)) ≡ s.lane.len = ap (λ e. length (bytes_of e)) entry.there ∙ entry.size in
      ap (λ n. nat_lt (s.lane.part + 1) (chunks_in n)) same ∙ is

  copies : (more : Bool) → nat_lt (s.lane.part + 1) (chunks_in s.lane.len) ≡ more → is_copying s.lane.phase ≡ true → IsUnderWay s.lane.sent s.lane.got s.lane.len
      → Leads Copy Before (if more then record Before { part = s.lane.part + 1 } else record Before { got = s.lane.got + 1; phase = Copied })
  copies more is turn entry = (
    phase_copying s.lane.phase turn,
    ap (λ b. if b then record Before { part = s.lane.part + 1 } else record Before { got = s.lane.got + 1; phase = Copied }) (sym (more_found more is entry)),
  )

  acks : is_cleared s.lane.phase ≡ true
      → Leads Acknowledge Before (With Writes (indexes_among q (flight_with s.state s.receiver.flight (Index q s.lane.acked))) (record s.lane { acked = s.lane.acked + 1; phase = Idle }) ring)
  acks turn = (
    phase_cleared s.lane.phase turn,
    ap (λ indexes. With Writes indexes (record s.lane { acked = s.lane.acked + 1; phase = Idle }) ring)
        (posted_read (label_index_of q) s.state s.receiver.flight (Index q s.lane.acked) s.lane.acked (own_index q s.lane.acked)),
  )

-- Each turn

-- both ends of a sight are up
pub record BothUp (s : Sight) : Type 0 where
  pub sender : s.sender.up ≡ true
  pub receiver : s.receiver.up ≡ true

-- While both sides of an ordinary pair are up, each turn of a lane is the steps of the lane's model that it tells.
pub turn_moves : (plan : Plan) (lane : LaneName) (s : Sight) (made : Answered) (news : News) (t : Sight) (ring : RingPart) → 2 ≤ (SizesOf plan lane).entries → IsRaw plan lane ≡ false
    → Turn plan lane s made news t → SidesKnown lane.queue s → FitsOf (SizesOf plan lane).largest lane.queue s → LeavesOf (SizesOf plan lane).entries t
    → HoldsRingLaw (Shown (SizesOf plan lane) lane.queue s ring) → BothUp s → BothUp t
    → MovesByLaneSteps news.change (Shown (SizesOf plan lane) lane.queue s ring) (Shown (SizesOf plan lane) lane.queue t (news.ring (SizesOf plan lane) ring))
turn_moves plan lane s made news t ring two no_raw (Trains may) sides fits leaves law up still =
    absurd (both_ways s.receiver.up (new_at_train s lane.queue may.down may.sender may.receiver sides).1 up.receiver)
turn_moves plan lane s made news t ring two no_raw (Breaks may) sides fits leaves law up still = moves Cut refl (may.up, refl)
turn_moves plan lane s made news t ring two no_raw (Drops may) sides fits leaves law up still =
    let lost = closing-not_up s.state may.closing in
    moves Drop refl (lost, ap (λ b. ledger_lane_shown (SizesOf plan lane) lane.queue b [] [] s.lane ring) (sym lost))
turn_moves plan lane s made news t ring two no_raw (Forgets Sender may) sides fits leaves law up still = absurd (false≢true still.sender)
turn_moves plan lane s made news t ring two no_raw (Forgets Receiver may) sides fits leaves law up still = absurd (false≢true still.receiver)
turn_moves plan lane s made news t ring two no_raw (Offers Sender label may) sides fits leaves law up still =
    out_posted (SizesOf plan lane) lane.queue s ring label (pad-write lane.queue label may.a_pad)
turn_moves plan lane s made news t ring two no_raw (Offers Receiver label may) sides fits leaves law up still =
    back_posted (SizesOf plan lane) lane.queue s ring label (pad-index lane.queue label may.a_pad)
turn_moves plan lane s made news t ring two no_raw (Checks Sender may) sides fits leaves law up still = absurd (both_ways s.sender.up may.not_yet up.sender)
turn_moves plan lane s made news t ring two no_raw (Checks Receiver may) sides fits leaves law up still = absurd (both_ways s.receiver.up may.not_yet up.receiver)
turn_moves plan lane s made news t ring two no_raw (Readies Sender queue may) sides fits leaves law up still =
    out_posted (SizesOf plan lane) lane.queue s ring (Pad links_pad (with_bit s.sender.ready queue)) refl
turn_moves plan lane s made news t ring two no_raw (Readies Receiver queue may) sides fits leaves law up still =
    back_posted (SizesOf plan lane) lane.queue s ring (Pad links_pad (with_bit s.receiver.ready queue)) refl
turn_moves plan lane s made news t ring two no_raw (Begins bytes first others may cut) sides fits leaves law up still =
    moves (Begin first) (first, refl)
    (begins (SizesOf plan lane) lane.queue s ring first (length others) two may.not_busy leaves (cut_within (SizesOf plan lane).largest bytes first others cut).0.1
    (fits.open_yet (up-not_down s.state may.up) may.not_closed) law)
turn_moves plan lane s made news t ring two no_raw (Closes may) sides fits leaves law up still =
    moves (Begin GoesDown) (GoesDown, refl) (begins (SizesOf plan lane) lane.queue s ring GoesDown 0 two may.not_busy leaves (omega arith) (fits.open_yet (up-not_down s.state may.up) may.not_closed) law)
turn_moves plan lane s made news t ring two no_raw (Posts label rest may) sides fits leaves law up still =
    moves Post (inl refl) (posts (SizesOf plan lane) lane.queue s ring s.lane label rest may.next may.own)
turn_moves plan lane s made news t ring two no_raw (PostsNext entry others label rest may) sides fits leaves law up still =
    let some : 0 < length s.lane.waiting = subst (λ waiting. 0 < length waiting) (sym may.waits) (omega arith) in
    let pieces = subst (AllByRecursion (IsPieceWithin (SizesOf plan lane).largest)) may.waits fits.waiting_fit in
    moves_twice _ (Begin entry) Post (inr (entry, refl)) (begins (SizesOf plan lane) lane.queue s ring entry (length others) two may.idle leaves pieces.0.1 (fits.open_waiting some) law)
    (posts (SizesOf plan lane) lane.queue s ring (picked lane.queue s.lane entry others) label rest may.next may.own)
turn_moves plan lane s made news t ring two no_raw (Strays after may) sides fits leaves law up still = absurd (both_ways (IsRaw plan lane) no_raw may.raw_pair)
turn_moves plan lane s made news t ring two no_raw (Says Sender label may) sides fits leaves law up still = out_posted (SizesOf plan lane) lane.queue s ring label may.foreign
turn_moves plan lane s made news t ring two no_raw (Says Receiver label may) sides fits leaves law up still = back_posted (SizesOf plan lane) lane.queue s ring label may.foreign
turn_moves plan lane s made news t ring two no_raw (LandsFlag place label n may) sides fits leaves law up still =
    moves (Land (EntryFlag n)) refl (flag_lands (SizesOf plan lane) lane.queue s ring place label n may.land may.is)
turn_moves plan lane s made news t ring two no_raw (LandsField place label n field may) sides fits leaves law up still =
    moves (Land (Data n field)) refl (field_lands (SizesOf plan lane) lane.queue s ring place label n field may.land may.is)
turn_moves plan lane s made news t ring two no_raw (LandsIndex place n may) sides fits leaves law up still =
    moves (GiveBack n) refl (indexes_among lane.queue (remove s.receiver.flight place), index_first (SizesOf plan lane) lane.queue s ring place n may, refl)
turn_moves plan lane s made news t ring two no_raw (LandsBell Sender place queue may) sides fits leaves law up still = bell_lands (SizesOf plan lane) lane.queue s ring place queue may
turn_moves plan lane s made news t ring two no_raw (LandsBell Receiver place queue may) sides fits leaves law up still = back_without (SizesOf plan lane) lane.queue s ring place (Bell queue) may refl
turn_moves plan lane s made news t ring two no_raw (LandsPad Sender place i value may) sides fits leaves law up still =
    out_without (SizesOf plan lane) lane.queue s ring place (Pad i value) may refl
turn_moves plan lane s made news t ring two no_raw (LandsPad Receiver place i value may) sides fits leaves law up still =
    back_without (SizesOf plan lane) lane.queue s ring place (Pad i value) may refl
turn_moves plan lane s made news t ring two no_raw (LandsAside Sender place label may) sides fits leaves law up still =
    out_without (SizesOf plan lane) lane.queue s ring place label may.land may.foreign
turn_moves plan lane s made news t ring two no_raw (LandsAside Receiver place label may) sides fits leaves law up still =
    back_without (SizesOf plan lane) lane.queue s ring place label may.land may.foreign
turn_moves plan lane s made news t ring two no_raw (Looks len left may) sides fits leaves law up still =
    moves Look refl (phase_idle s.lane.phase may.idle, some_found (SizesOf plan lane) lane.queue s ring (may.found no_raw).some law, refl)
turn_moves plan lane s made news t ring two no_raw (CopiesPart bytes may) sides fits leaves law up still =
    moves Copy refl (copies (SizesOf plan lane) lane.queue s ring true may.more may.turn (fits.copying may.turn))
turn_moves plan lane s made news t ring two no_raw (CopiesEntry bytes may) sides fits leaves law up still =
    moves Copy refl (copies (SizesOf plan lane) lane.queue s ring false may.copy.more may.copy.turn (fits.copying may.copy.turn))
turn_moves plan lane s made news t ring two no_raw (CopiesLast bytes may) sides fits leaves law up still =
    moves Copy refl (copies (SizesOf plan lane) lane.queue s ring false may.copy.more may.copy.turn (fits.copying may.copy.turn))
turn_moves plan lane s made news t ring two no_raw (Clears may) sides fits leaves law up still = moves Clear refl (phase_copied s.lane.phase may.turn, refl)
turn_moves plan lane s made news t ring two no_raw (Acks may) sides fits leaves law up still = moves Acknowledge refl (acks (SizesOf plan lane) lane.queue s ring may.turn)
turn_moves plan lane s made news t ring two no_raw turn sides fits leaves law up still = stays refl
