-- On an ordinary pair the bytes say what the ledger says.
use Rattle.std.proofs.Common.{◌≡◌, ℕ, ◌%◌, ◌<◌, ◌≤◌, true, false, List, [], ◌∷◌, length, refl, sym, ap, ◌∙◌, subst, arith, mod-lt}
use Rattle.std.specs.Prelude.{if◌then◌else◌, slice_index_or}
use Rattle.std.specs.List.{AllByRecursion, list_all}
use Rattle.std.proofs.lemmas.Bool.{and_parts, eq-eqb}
use Rattle.step_kinds.specs.Bits.{has_bit}
use Rattle.step_kinds.specs.Sides.{other_side}
use Rattle.step_kinds.specs.Subject.{subject_of}
use Rattle.step_kinds.specs.declared.names.LaneName.{LaneName}
use Rattle.step_kinds.specs.declared.names.Side.{Side}
use Rattle.step_kinds.specs.declared.names.Side.TheVariants.{A, B}
use Rattle.step_kinds.specs.declared.plan.PairPlan.{PairPlan}
use Rattle.step_kinds.specs.declared.plan.Plan.{Plan}
use Rattle.step_kinds.specs.declared.steps.Label.{Label}
use Rattle.step_kinds.specs.declared.steps.Label.TheVariants.{Chunk, Len, Ver, Flag, Down, Bell}
use Rattle.step_kinds.specs.declared.steps.Step.{Step}
use Rattle.lane_model.specs.Lane.{Entry, Slot, Lane, blank_slot}
use Rattle.lane_model.specs.Law.{HoldsRingLaw, slot_among}
use Rattle.lane_model.specs.Ring.{tail_of}
use Rattle.lane_laws.proofs.Facade.{look_sees, copy_sees}
use Rattle.ring_geometry.specs.Geometry.{HasRing, entries_of}
use Rattle.pair_model.specs.Both.{at_side}
use Rattle.pair_model.specs.DeclaredPlans.{Agree, IsDeclared, IsPair, IsPairOf, IsPermitted}
use Rattle.pair_model.specs.Plans.{pair_plan, side_plan}
use Rattle.pair_model.specs.Sizes.{Sizes, layout_of, sizes_in, sizes_of}
use Rattle.pair_model.proofs.Facade.{each_queue_has_a_ring}
use Rattle.pair_model.specs.Addresses.{own_slot}
use Rattle.pair_model.specs.Headers.{Bytes, found_in_memory, found_with, free_in_memory, header_in, index_word_in, part_in_memory}
use Rattle.ledger_model.specs.Ledger.{LanePart, PairPart, side_of, lane_of, begun_in, entry_in, free_of, head_in}
use Rattle.ledger_model.specs.Log.{ledger_of}
use Rattle.ledger_model.specs.Next.{read_next}
use Rattle.ledger_model.specs.Reading.{by_bytes, by_ledger, found_in_ledger, has_window, part_in_ledger}
use Rattle.ledger_model.specs.Receiving.{is_idle, is_copying}
use Rattle.ledger_model.specs.Rings.{RingPart, ring_of, shown_lane}
use Rattle.ledger_model.specs.Sending.{is_empty_list, is_busy, next_begun, with_next}
use Rattle.ledger_model.specs.Memory.{bytes_of_site, memory_of, site_of}
use Rattle.ledger_laws.specs.Laws.{IsOrdinaryOn}
use Rattle.ledger_laws.specs.Rings.{with_tail}
use Rattle.ledger_laws.specs.States.{IsOfEntry, IsOnQueue}
use Rattle.ledger_laws.proofs.EntriesFit.{entries_fit_the_ring}
use Rattle.ledger_laws.proofs.FramesWithinMost.{freed_were_begun, receiver_knows_its_frame}
use Rattle.ledger_laws.proofs.JoinedMeansAgreement.{joined_means_agreement}
use Rattle.ledger_laws.proofs.JoinedOnSides.{some_todo, some_wait, copying-not_idle, cleared-not_idle, joined_side_is_up, stopped_device_is_joined, busy_sender_is_joined, busy_receiver_is_joined}
use Rattle.ledger_laws.proofs.LabelsOfEntries.{labels_are_of_entries}
use Rattle.ledger_laws.proofs.RingLawHolds.{ring_law_of_receiver, index_word_is_tail, two_entries}
use Rattle.ledger_laws.proofs.RingOfLane.{phase_idle, phase_copying}
use Rattle.ledger_laws.proofs.walk.SendingTurns.{on_queue-labels}
use Rattle.ledger_laws.proofs.walk.Turn.{on_queue}
use Rattle.ledger_laws.specs.Readings.{BytesSayTheLedger}
use Rattle.ledger_laws.specs.StoredRings.{RingStandsAt, StandsAt}
use Rattle.ledger_laws.proofs.OrdinarySteps.{permitted_are_ordinary}
use Rattle.ledger_laws.proofs.RingsStand.{rings_stand_in_memory}
use Rattle.ledger_laws.proofs.Sites.{sites_are_the_ledger}
use Rattle.ledger_laws.proofs.StepsReadAlike.{ReadAlike, read_alike}
use Rattle.ledger_laws.proofs.WhatIsRead.{layouts_alike, write_has_window, index_has_window, room_is_read, next_read, mod-twice, header_at_slot, address_at_slot, part_is_read}

-- The next write that a sender posts

on_its_queue : (q : ℕ) (label : Label) → IsOnQueue q label → on_queue q label ≡ true
on_its_queue q (Chunk p n part) own = eq-eqb p q own
on_its_queue q (Len p n) own = eq-eqb p q own
on_its_queue q (Ver p n) own = eq-eqb p q own
on_its_queue q (Flag p n) own = eq-eqb p q own
on_its_queue q (Down p n) own = eq-eqb p q own
on_its_queue q (Bell p) own = eq-eqb p q own
on_its_queue q label own = absurd own

first_of_all : (P : Label → Type 0) (labels : List Label) (label : Label) (rest : List Label) → labels ≡ label ∷ rest → AllByRecursion P labels → P label
first_of_all P labels label rest is all = (subst (AllByRecursion P) is all).0

-- it is the lane's, which has something left to post
next_is_own : (q : ℕ) (lane : LanePart) (label : Label) (rest : List Label) → AllByRecursion (λ l. IsOnQueue q l × IsOfEntry lane.sent l) lane.todo → (next_begun q lane).todo ≡ label ∷ rest
    → (is_busy lane ≡ true) × (on_queue q label ≡ true)
next_is_own q lane label rest all = go lane.todo refl
  where
    waits : (waiting : List Entry) → lane.waiting ≡ waiting → lane.todo ≡ [] → (with_next q lane waiting).todo ≡ label ∷ rest → (is_busy lane ≡ true) × (on_queue q label ≡ true)
    waits [] w none is = absurd (cc (none, is))
    waits (entry ∷ others) w none is = (
      some_wait lane entry others none w,
      (and_parts (on_queue q label) (list_all (on_queue q) rest) (ap (list_all (on_queue q)) (sym is) ∙ on_queue-labels q (length lane.sent) entry)).0,
    )

    go : (todo : List Label) → lane.todo ≡ todo → (if is_empty_list todo then with_next q lane lane.waiting else lane).todo ≡ label ∷ rest → (is_busy lane ≡ true) × (on_queue q label ≡ true)
    go [] e is = waits lane.waiting refl e is
    go (first ∷ others) e is = (some_todo lane label rest is, on_its_queue q label (first_of_all (λ l. IsOnQueue q l × IsOfEntry lane.sent l) lane.todo label rest is all).0)

-- What each side of the pair reads

module _ (plan : Plan) (steps : List Step) (k : ℕ) (declared : IsDeclared plan) (permitted : AllByRecursion (IsPermitted plan) steps) (paired : IsPairOf plan k)
    (no_raw : (pair_plan plan k).raw ≡ false) where
  abbrev Own : PairPlan
  Own = pair_plan plan k

  abbrev Shown : Bytes
  Shown = bytes_of_site (site_of plan k steps)

  abbrev Now : PairPart
  Now = ledger_of plan (memory_of plan) steps k

  abbrev name : Side → ℕ → LaneName
  name from queue = record { pair = k; from = from; queue = queue }

  abbrev ring : Side → ℕ → RingPart
  ring from queue = ring_of plan (memory_of plan) steps (record { pair = k; from = from; queue = queue })

  abbrev IsJoined : Side → ℕ → Type 0
  IsJoined side queue = has_bit (side_of Now side).joined queue ≡ true

  abbrev Has : Side → ℕ → Type 0
  Has side queue = queue < (side_plan Own side).queues

  is_pair : IsPair (pair_plan plan k)
  is_pair = declared.pairs k paired

  ordinary : AllByRecursion (IsOrdinaryOn k) steps
  ordinary = permitted_are_ordinary plan k no_raw steps permitted

  agreed : (side : Side) (queue : ℕ) → IsJoined side queue → Agree Own
  agreed side queue joined = joined_means_agreement plan (memory_of plan) steps k side queue is_pair ordinary joined

  stands : (from : Side) (queue : ℕ) → Has from queue → Agree Own → RingStandsAt Own Shown from queue (ring from queue)
  stands from queue has agree = rings_stand_in_memory plan steps (name from queue) declared permitted (record { declared = paired; ordinary = no_raw; agree = agree; among = has })

  has_ring : (from : Side) (queue : ℕ) → Has from queue → HasRing (layout_of Own from queue)
  has_ring from queue has = (each_queue_has_a_ring Own from queue is_pair has).0.ring

  two : (from : Side) (queue : ℕ) → Has from queue → 2 ≤ (sizes_of Own from queue).entries
  two from queue has = two_entries (layout_of Own from queue) (has_ring from queue has)

  -- The sender

  word_is : (side : Side) (queue : ℕ) → Has side queue → IsJoined side queue → index_word_in Own Shown side queue ≡ tail_of (sizes_of Own side queue).entries (lane_of Now side queue).freed
  word_is side queue has joined =
      (stands side queue has (agreed side queue joined)).index_word
      ∙ index_word_is_tail plan (memory_of plan) steps (name side queue) no_raw ordinary (has_ring side queue has) (joined_side_is_up plan (memory_of plan) steps k side queue joined)

  free_is : (side : Side) (queue : ℕ) → Has side queue → IsJoined side queue
      → free_in_memory (sizes_of Own side queue).entries (head_in (sizes_of Own side queue) (lane_of Now side queue)) (index_word_in Own Shown side queue) ≡ free_of (sizes_of Own side queue) (lane_of Now side queue)
  free_is side queue has joined =
      let lane = lane_of Now side queue in
      let large = two side queue has in
      let low = freed_were_begun plan (memory_of plan) steps k side queue no_raw in
      room_is_read (sizes_of Own side queue).entries (begun_in lane) lane.freed (index_word_in Own Shown side queue) large (omega (arith, low))
      ((entries_fit_the_ring plan (memory_of plan) steps (name side queue) no_raw).one_free (omega (arith, large))) (word_is side queue has joined)

  posts_are : (side : Side) (queue : ℕ) (label : Label) (rest : List Label) → (next_begun queue (lane_of Now side queue)).todo ≡ label ∷ rest → has_window Own side label ≡ true
  posts_are side queue label rest is =
      let own = next_is_own queue (lane_of Now side queue) label rest ((labels_are_of_entries plan (memory_of plan) steps k side no_raw).to_post queue) is in
      write_has_window Own (agreed side queue (busy_sender_is_joined plan (memory_of plan) steps k side queue no_raw own.0)) is_pair side queue label own.1

  -- The receiver of a lane

  -- the queue is one of the sender's too
  has_sender : (from : Side) (queue : ℕ) → Agree Own → Has (other_side from) queue → Has from queue
  has_sender A queue agree has = omega (arith, agree.queues, has)
  has_sender B queue agree has = omega (arith, agree.queues, has)

  abbrev shown : Side → ℕ → Lane
  shown from queue = shown_lane (sizes_of Own from queue) Now (with_tail (sizes_of Own from queue) (lane_of Now from queue) (ring from queue)) from queue

  law : (from : Side) (queue : ℕ) → Has from queue → IsJoined (other_side from) queue → HoldsRingLaw (shown from queue)
  law from queue has joined =
      ring_law_of_receiver plan (memory_of plan) steps (name from queue) no_raw ordinary (has_ring from queue has) (joined_side_is_up plan (memory_of plan) steps k (other_side from) queue joined)

  -- the slot of the next entry, as the ring has it and as it is in memory
  abbrev next_slot : Side → ℕ → Slot
  next_slot from queue = slot_among (sizes_of Own from queue).entries (ring from queue).ring (lane_of Now from queue).got

  next_stands : (from : Side) (queue : ℕ) → Has from queue → Agree Own
      → StandsAt Own Shown (other_side from) queue (sizes_of Own from queue).largest ((lane_of Now from queue).got % (sizes_of Own from queue).entries) (next_slot from queue)
  next_stands from queue has agree =
      let entries = (sizes_of Own from queue).entries in
      let got = (lane_of Now from queue).got in
      let large = two from queue has in
      let some : 0 < entries = omega (arith, large) in
      subst (StandsAt Own Shown (other_side from) queue (sizes_of Own from queue).largest (got % entries)) (ap (λ place. slice_index_or (ring from queue).ring place blank_slot) (mod-twice got entries some))
      ((stands from queue has agree).slots (got % entries) (mod-lt got some))

  -- A lane whose receiver is joined
  module _ (from : Side) (queue : ℕ) (has : Has (other_side from) queue) (joined : IsJoined (other_side from) queue) where
    abbrev lane : LanePart
    lane = lane_of Now from queue

    abbrev sizes : Sizes
    sizes = sizes_of Own from queue

    agree : Agree Own
    agree = agreed (other_side from) queue joined

    sends : Has from queue
    sends = has_sender from queue agree has

    large : 2 ≤ sizes.entries
    large = two from queue sends

    holds : HoldsRingLaw (shown from queue)
    holds = law from queue sends joined

    found_is : is_idle lane.phase ≡ true
        → found_in_memory Own Shown (other_side from) queue lane.got (length lane.gathered) ≡ found_in_ledger lane
    found_is idle =
        let sees = look_sees (shown from queue) (phase_idle lane.phase idle) holds in
        let same = layouts_alike Own agree from queue in
        let header = sym (header_at_slot Own (other_side from) queue lane.got sizes.entries (omega (arith, large)) (ap entries_of same) Shown) ∙ (next_stands from queue sends agree).header in
        ap (λ layout. found_with (sizes_in Own layout) lane.got (length lane.gathered) (header_in Own Shown (other_side from) queue lane.got)) same
        ∙ ap (found_with sizes lane.got (length lane.gathered)) header
        ∙ next_read sizes lane.flagged lane.got (length lane.gathered) (next_slot from queue) (entry_in lane lane.got) sees.one_of_both sees.nothing sees.an_entry
        (λ more.
        let begun = holds.2.counts.flagged_first in
        let below : lane.got < length lane.sent = omega (arith, more, begun) in
        (holds.2.frames.fits lane.got below, (receiver_knows_its_frame plan (memory_of plan) steps (name from queue) no_raw).fits joined idle below))

    part_is : is_copying lane.phase ≡ true
        → part_in_memory Own Shown (other_side from) queue lane.got lane.len lane.part ≡ part_in_ledger lane
    part_is copying =
        let sees = copy_sees (shown from queue) (phase_copying lane.phase copying) holds in
        let begun = holds.2.counts.flagged_first in
        let first = sees.0 in
        let at = own_slot Own (other_side from) queue lane.got in
        let address = address_at_slot Own (other_side from) queue lane.got sizes.entries (omega (arith, large)) (ap entries_of (layouts_alike Own agree from queue)) in
        let payload = ap (λ place. Shown (other_side from) place sizes.largest) (sym address) ∙ (next_stands from queue sends agree).payload in
        part_is_read (at_side (site_of plan k steps).stores (other_side from)) at sizes.largest lane.part lane.len (next_slot from queue) lane.got (entry_in lane lane.got)
        payload sees.3 sees.2 ((receiver_knows_its_frame plan (memory_of plan) steps (name from queue) no_raw).len_is copying) (holds.2.frames.fits lane.got (omega (arith, first, begun)))

  -- A side, which sends one lane of a queue and receives the other

  busy_joined : (side : Side) (queue : ℕ) → is_idle (lane_of Now (other_side side) queue).phase ≡ false → IsJoined side queue
  busy_joined side queue busy = busy_receiver_is_joined plan (memory_of plan) steps k side queue no_raw busy

  found_at : (side : Side) (queue : ℕ) → Has side queue → IsJoined side queue → is_idle (lane_of Now (other_side side) queue).phase ≡ true
      → (by_bytes Own Shown Now).found side queue ≡ (by_ledger Own Now).found side queue
  found_at A queue has joined idle = found_is B queue has joined idle
  found_at B queue has joined idle = found_is A queue has joined idle

  part_at : (side : Side) (queue : ℕ) → Has side queue → is_copying (lane_of Now (other_side side) queue).phase ≡ true → (by_bytes Own Shown Now).part side queue ≡ (by_ledger Own Now).part side queue
  part_at A queue has copying = part_is B queue has (busy_joined A queue (copying-not_idle (lane_of Now B queue).phase copying)) copying
  part_at B queue has copying = part_is A queue has (busy_joined B queue (copying-not_idle (lane_of Now A queue).phase copying)) copying

  pub side_alike : (side : Side) (queue : ℕ) → Has side queue → ReadAlike Own Shown Now side queue
  side_alike side queue has = record {
    free = free_is side queue has;
    index_word = word_is side queue has;
    stopped = stopped_device_is_joined plan (memory_of plan) steps k side queue;
    found = found_at side queue has;
    part = part_at side queue has;
    posts = posts_are side queue;
    gives = λ turn.
        let joined = busy_joined side queue (cleared-not_idle (lane_of Now (other_side side) queue).phase turn) in
        index_has_window Own (agreed side queue joined) is_pair side queue (lane_of Now (other_side side) queue).acked;
  }

-- The law

-- On an ordinary pair each permitted step has the same outcome by the bytes in memory as by the ledger.
pub bytes_say_the_ledger : BytesSayTheLedger
bytes_say_the_ledger plan steps step declared permitted may paired no_raw =
    let k = subject_of step in
    let own = pair_plan plan k in
    let bytes = bytes_of_site (site_of plan k steps) in
    subst (λ now. read_next plan.devs own (by_bytes own bytes now) bytes now step ≡ read_next plan.devs own (by_ledger own now) bytes now step) (sym (sites_are_the_ledger plan steps k))
    (read_alike plan bytes (ledger_of plan (memory_of plan) steps k) step may (side_alike plan steps k declared permitted paired no_raw))
