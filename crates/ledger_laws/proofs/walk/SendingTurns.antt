-- The steps of a sender: what it begins and what it posts, as a turn of its lane and of every other lane.
use Rattle.std.proofs.Common.{◌≡◌, ℕ, ◌==◌, ◌≤◌, Bool, true, false, None, List, [], ◌∷◌, length, refl, sym, ap, ◌∙◌, subst, inl}
use Rattle.std.specs.List.{list_all}
use Rattle.std.proofs.lemmas.Bool.{false≢true, ne_eqb, eq-eqb, eqb-true, cond_both}
use Rattle.step_kinds.specs.Bits.{with_bit}
use Rattle.step_kinds.specs.Sides.{other_side}
use Rattle.step_kinds.specs.declared.names.LaneName.{LaneName}
use Rattle.step_kinds.specs.declared.names.Side.{Side}
use Rattle.step_kinds.specs.declared.plan.Plan.{Plan}
use Rattle.step_kinds.specs.declared.steps.Answer.TheVariants.{OkNumber, Posted}
use Rattle.step_kinds.specs.declared.steps.Label.{Label}
use Rattle.step_kinds.specs.declared.steps.Label.TheVariants.{Chunk, Len, Ver, Flag, Down, Bell, Index, Pad}
use Rattle.step_kinds.specs.declared.steps.Step.{Step}
use Rattle.step_kinds.specs.declared.steps.Step.TheVariants.{QpDown, Post}
use Rattle.lane_model.specs.Lane.{Entry, Carries, GoesDown, writes_of}
use Rattle.lane_model.specs.declared.Field.TheVariants.{Chunk as PayloadChunk, Length, Version}
use Rattle.lane_model.specs.declared.Write.{Write}
use Rattle.lane_model.specs.declared.Write.TheVariants.{Data, Flag as EntryFlag, Bell as QueueBell}
use Rattle.ledger_model.specs.Pieces.{pieces_of}
use Rattle.ledger_model.specs.Reading.{Reading}
use Rattle.ledger_model.specs.Labels.{label_of, labels_of, write_of, label_index_of}
use Rattle.ledger_model.specs.Ledger.{LanePart, PairPart, free_of, lane_of, posts, with_lane, updated}
use Rattle.ledger_model.specs.Log.{is_on}
use Rattle.ledger_model.specs.Sending.{begun, begun_lane, frame_begun}
use Rattle.pair_model.specs.Plans.{pair_plan}
use Rattle.pair_model.specs.Sizes.{Sizes, sizes_of}
use Rattle.ledger_laws.specs.LaneChanges.{WriteIsPosted}
use Rattle.ledger_laws.proofs.walk.Cases.{MaySend, needs, closing, posted_by}
use Rattle.ledger_laws.proofs.walk.Sight.{Sight, Sender, Receiver, posted, sight, IsOff, OffCase, OtherQueue, OtherWay, by_lane, sight-side, sight-posts, sight-lane, sight-off, sight-tally, sight-tally_off}
use Rattle.ledger_laws.proofs.walk.Turn.{hand_of, is_handshake, on_queue, more_accepted, Turn, turned, IsRaw, SizesOf, Rests, Begins, Closes, Strays, Shuts, Says}
use Rattle.ledger_laws.proofs.walk.News.{Tells, no_news, begun_news}
use Rattle.ledger_laws.proofs.walk.Tells.{on-own, on-off, tells_qpdown, tells_post}
use Rattle.ledger_laws.proofs.walk.TurnAt.{TurnAt, ReadsLedger, unreached_raw, shown_as}
use Rattle.ledger_laws.proofs.Pieces.{HasPieces, has_pieces}
use Rattle.ledger_laws.proofs.Offers.{list_all-map}

-- a lane's write writes no scratchpad, and means nothing to other lanes
lane_label-no_pad : (queue : ℕ) (label : Label) → on_queue queue label ≡ true → is_handshake label ≡ false
lane_label-no_pad queue (Pad i value) on = absurd (false≢true on)
lane_label-no_pad queue label on = refl

other_queue : (queue q p : ℕ) → (q ≡ queue → ⊥) → (p == queue) ≡ true → (p == q) ≡ false
other_queue queue q p ne on = ne_eqb p q (λ e. ne (sym e ∙ eqb-true p queue on))

write_of-other : (queue q : ℕ) (label : Label) → (q ≡ queue → ⊥) → on_queue queue label ≡ true → write_of q label ≡ None
write_of-other queue q (Chunk p n part) ne on = rw (other_queue queue q p ne on) refl
write_of-other queue q (Len p n) ne on = rw (other_queue queue q p ne on) refl
write_of-other queue q (Ver p n) ne on = rw (other_queue queue q p ne on) refl
write_of-other queue q (Flag p n) ne on = rw (other_queue queue q p ne on) refl
write_of-other queue q (Down p n) ne on = rw (other_queue queue q p ne on) refl
write_of-other queue q (Bell p) ne on = rw (other_queue queue q p ne on) refl
write_of-other queue q label ne on = refl

index_of-lane : (queue q : ℕ) (label : Label) → on_queue queue label ≡ true → label_index_of q label ≡ None
index_of-lane queue q (Index p n) on = absurd (false≢true on)
index_of-lane queue q label on = refl

-- the labels of an entry are those of its lane's queue
on_queue-label : (q : ℕ) (entry : Entry) (write : Write) → on_queue q (label_of q entry write) ≡ true
on_queue-label q entry (Data n (PayloadChunk part)) = eq-eqb q q refl
on_queue-label q entry (Data n Length) = eq-eqb q q refl
on_queue-label q entry (Data n Version) = eq-eqb q q refl
on_queue-label q (Carries bytes left) (EntryFlag n) = eq-eqb q q refl
on_queue-label q GoesDown (EntryFlag n) = eq-eqb q q refl
on_queue-label q entry QueueBell = eq-eqb q q refl

-- The labels of an entry's writes on a queue are all on that queue.
pub on_queue-labels : (q n : ℕ) (entry : Entry) → list_all (on_queue q) (labels_of q n entry) ≡ true
on_queue-labels q n entry = list_all-map (on_queue q) (label_of q entry) (writes_of n entry) (on_queue-label q entry)

module _ (plan : Plan) (lane : LaneName) (pair : PairPart) (reading : Reading) (reads : ReadsLedger plan lane pair reading) where
  abbrev Now : Sight
  Now = sight lane.from lane.queue pair

  abbrev SizesAt : Side → ℕ → Sizes
  SizesAt s q = sizes_of (pair_plan plan lane.pair) s q

  -- the ring's room, as the ledger says it
  room_read : (needed : ℕ) → needed ≤ reading.free lane.from lane.queue → IsRaw plan lane ≡ false → needed ≤ free_of (SizesOf plan lane) Now.lane
  room_read needed room no_raw = subst (λ (r : Reading). needed ≤ r.free lane.from lane.queue) (reads no_raw) room

  -- a frame is begun, on this lane or on another; `after` is the pair with devices that count it
  module _ (step : Side → ℕ → Step) (after : Side → ℕ → PairPart) (frame : List ℕ)
      (looks_so : (side : Side) (queue : ℕ) → sight lane.from lane.queue (after side queue) ≡ sight lane.from lane.queue (begun (SizesAt side queue) pair side queue frame))
      (p : ℕ) (same_pair : p ≡ lane.pair)
      (told : (side : Side) (queue n : ℕ) (own : Bool) → is_on lane p side queue ≡ own
      → Tells plan lane Now.lane (record { step = step side queue; answer = OkNumber n }) (begun_news own (needs (SizesOf plan lane) (length frame)) n frame)) where
    pub begin : (side : Side) (queue : ℕ) → MaySend reading (SizesAt side queue) pair side queue (length frame) (needs (SizesAt side queue) (length frame))
        → TurnAt plan lane pair (step side queue) (record { answer = OkNumber (lane_of pair side queue).told; after = after side queue })
    begin side queue may =
        by_lane lane.from lane.queue
        (λ s q. MaySend reading (SizesAt s q) pair s q (length frame) (needs (SizesAt s q) (length frame))
        → TurnAt plan lane pair (step s q) (record { answer = OkNumber (lane_of pair s q).told; after = after s q }))
        own off side queue may
      where
        cut : HasPieces (SizesOf plan lane).largest frame
        cut = has_pieces (SizesOf plan lane).largest frame

        own : MaySend reading (SizesOf plan lane) pair lane.from lane.queue (length frame) (needs (SizesOf plan lane) (length frame))
            → TurnAt plan lane pair (step lane.from lane.queue) (record { answer = OkNumber Now.lane.told; after = after lane.from lane.queue })
        own may =
            shown_as plan lane pair (step lane.from lane.queue) (OkNumber Now.lane.told) (after lane.from lane.queue) _
            (looks_so lane.from lane.queue
            ∙ sight-tally lane.from lane.queue (with_lane pair lane.from lane.queue (frame_begun lane.queue Now.lane (pieces_of (SizesOf plan lane).largest frame))) pair.link.session _
            ∙ ap (λ (s : Sight). record s { tally = updated Now.tally Now.session (more_accepted (Now.tally Now.session)) }) (sight-lane lane.from lane.queue pair _)
            ∙ ap (λ pieces. record Now { lane = frame_begun lane.queue Now.lane pieces; tally = updated Now.tally Now.session (more_accepted (Now.tally Now.session)) }) cut.same)
            (turned (Begins frame cut.first cut.others (record {
              up = may.up;
              joined = may.joined;
              not_closed = may.not_closed;
              not_busy = may.not_busy;
              none_waiting = may.none_waiting;
              room = room_read (needs (SizesOf plan lane) (length frame)) may.room;
              fits = may.fits;
            }) cut.same)
            (told lane.from lane.queue Now.lane.told true (on-own lane p same_pair)))

        off : (s : Side) (q : ℕ) → OffCase lane.from lane.queue s q → IsOff lane.from lane.queue s q → MaySend reading (SizesAt s q) pair s q (length frame) (needs (SizesAt s q) (length frame))
            → TurnAt plan lane pair (step s q) (record { answer = OkNumber (lane_of pair s q).told; after = after s q })
        off s q case is may =
            shown_as plan lane pair (step s q) (OkNumber (lane_of pair s q).told) (after s q) _
            (looks_so s q
            ∙ sight-tally_off lane.from lane.queue (with_lane pair s q (frame_begun q (lane_of pair s q) (pieces_of (SizesAt s q).largest frame))) s q pair.link.session _ is
            ∙ sight-off lane.from lane.queue pair s q _ is)
            (turned (Rests false) (told s q (lane_of pair s q).told false (on-off lane p s q is)))

  -- a link-down entry
  pub qpdown : (p : ℕ) → p ≡ lane.pair → (side : Side) (queue : ℕ) → MaySend reading (SizesAt side queue) pair side queue 0 1
      → TurnAt plan lane pair (QpDown p side queue) (record { answer = OkNumber (lane_of pair side queue).told; after = closing pair side queue })
  qpdown p e side queue may =
      by_lane lane.from lane.queue
      (λ s q. MaySend reading (SizesAt s q) pair s q 0 1 → TurnAt plan lane pair (QpDown p s q) (record { answer = OkNumber (lane_of pair s q).told; after = closing pair s q }))
      own off side queue may
    where
      own : MaySend reading (SizesOf plan lane) pair lane.from lane.queue 0 1
          → TurnAt plan lane pair (QpDown p lane.from lane.queue) (record { answer = OkNumber Now.lane.told; after = closing pair lane.from lane.queue })
      own may =
          shown_as plan lane pair (QpDown p lane.from lane.queue) (OkNumber Now.lane.told) (closing pair lane.from lane.queue) _
          (sight-side lane.from lane.queue (with_lane pair lane.from lane.queue (begun_lane lane.queue Now.lane (GoesDown ∷ []))) Sender _
          ∙ ap (λ (s : Sight). record s { sender = record Now.sender { part = record Now.sender.part { closed = with_bit Now.sender.closed lane.queue } } }) (sight-lane lane.from lane.queue pair _))
          (turned (Closes (record {
            up = may.up;
            joined = may.joined;
            not_closed = may.not_closed;
            not_busy = may.not_busy;
            none_waiting = may.none_waiting;
            room = room_read 1 may.room;
            fits = may.fits;
          }))
          (tells_qpdown plan lane Now.lane p lane.from lane.queue _ true (on-own lane p e)))

      off : (s : Side) (q : ℕ) → OffCase lane.from lane.queue s q → IsOff lane.from lane.queue s q → MaySend reading (SizesAt s q) pair s q 0 1
          → TurnAt plan lane pair (QpDown p s q) (record { answer = OkNumber (lane_of pair s q).told; after = closing pair s q })
      off s q (OtherQueue ne) is may =
          shown_as plan lane pair (QpDown p lane.from q) (OkNumber (lane_of pair lane.from q).told) (closing pair lane.from q) _
          (sight-side lane.from lane.queue (with_lane pair lane.from q (begun_lane q (lane_of pair lane.from q) (GoesDown ∷ []))) Sender _
          ∙ ap (λ (s : Sight). record s { sender = record Now.sender { part = record Now.sender.part { closed = with_bit Now.sender.closed q } } }) (sight-off lane.from lane.queue pair lane.from q _ is))
          (turned (Shuts Sender q false) (tells_qpdown plan lane Now.lane p lane.from q _ false (on-off lane p lane.from q is)))
      off s q OtherWay is may =
          shown_as plan lane pair (QpDown p (other_side lane.from) q) (OkNumber (lane_of pair (other_side lane.from) q).told) (closing pair (other_side lane.from) q) _
          (sight-side lane.from lane.queue (with_lane pair (other_side lane.from) q (begun_lane q (lane_of pair (other_side lane.from) q) (GoesDown ∷ []))) Receiver _
          ∙ ap (λ (s : Sight). record s { receiver = record Now.receiver { part = record Now.receiver.part { closed = with_bit Now.receiver.closed q } } }) (sight-off lane.from lane.queue pair (other_side lane.from) q _ is))
          (turned (Shuts Receiver q false) (tells_qpdown plan lane Now.lane p (other_side lane.from) q _ false (on-off lane p (other_side lane.from) q is)))

  -- A write is posted, of this lane or of another: `Ready` says which, and `lane_then` is the lane that posts it by
  -- then
  module _ (p : ℕ) (same_pair : p ≡ lane.pair) (label : Label) (later : List Label) (lane_then : Side → ℕ → LanePart) (Ready : Side → ℕ → Type 0)
      (on_it : (s : Side) (q : ℕ) → Ready s q → (on_queue q label ≡ true) × (list_all (on_queue q) later ≡ true))
      (same_hand : hand_of (lane_then lane.from lane.queue) ≡ hand_of Now.lane)
      (own_turn : Ready lane.from lane.queue → Turn plan lane Now (record { step = Post p lane.from lane.queue; answer = Posted label }) (record no_news { change = WriteIsPosted })
      (posted Sender label (record Now { lane = record (lane_then lane.from lane.queue) { todo = later } }))) where
    abbrev Left : Side → ℕ → PairPart
    Left s q = with_lane pair s q (record (lane_then s q) { todo = later })

    abbrev Done : Side → ℕ → PairPart → Type 0
    Done s q after = TurnAt plan lane pair (Post p s q) (record { answer = Posted label; after = after })

    pub post : (side : Side) (queue : ℕ) → Ready side queue → Done side queue (posted_by reading pair side queue (lane_then side queue) later label)
    post side queue ready = by_lane lane.from lane.queue (λ s q. Ready s q → Done s q (posted_by reading pair s q (lane_then s q) later label)) own off side queue ready
      where
        own : Ready lane.from lane.queue → Done lane.from lane.queue (posted_by reading pair lane.from lane.queue (lane_then lane.from lane.queue) later label)
        own ready =
            cond_both (reading.reaches lane.from label) (posts (Left lane.from lane.queue) lane.from label) (Left lane.from lane.queue) (Done lane.from lane.queue)
            (λ reached. shown_as plan lane pair (Post p lane.from lane.queue) (Posted label) (posts (Left lane.from lane.queue) lane.from label) _
            (sight-posts lane.from lane.queue (Left lane.from lane.queue) Sender label ∙ ap (posted Sender label) (sight-lane lane.from lane.queue pair _))
            (turned (own_turn ready) (tells_post plan lane Now.lane p lane.from lane.queue label true (on-own lane p same_pair))))
            (λ lost. shown_as plan lane pair (Post p lane.from lane.queue) (Posted label) (Left lane.from lane.queue) _ (sight-lane lane.from lane.queue pair _)
            (turned (Strays _ (record { raw_pair = unreached_raw plan lane pair reading reads lane.from label lost; own = (on_it lane.from lane.queue ready).1; hand = inl same_hand }))
            (tells_post plan lane Now.lane p lane.from lane.queue label true (on-own lane p same_pair))))

        off : (s : Side) (q : ℕ) → OffCase lane.from lane.queue s q → IsOff lane.from lane.queue s q → Ready s q → Done s q (posted_by reading pair s q (lane_then s q) later label)
        off s q case is ready =
            cond_both (reading.reaches s label) (posts (Left s q) s label) (Left s q) (Done s q) (λ reached. said s q case is ready)
            (λ lost. shown_as plan lane pair (Post p s q) (Posted label) (Left s q) _ (sight-off lane.from lane.queue pair s q _ is)
            (turned (Rests false) (tells_post plan lane Now.lane p s q label false (on-off lane p s q is))))
          where
            said : (s : Side) (q : ℕ) → OffCase lane.from lane.queue s q → IsOff lane.from lane.queue s q → Ready s q → Done s q (posts (Left s q) s label)
            said s q (OtherQueue ne) is ready =
                shown_as plan lane pair (Post p lane.from q) (Posted label) (posts (Left lane.from q) lane.from label) _
                (sight-posts lane.from lane.queue (Left lane.from q) Sender label ∙ ap (posted Sender label) (sight-off lane.from lane.queue pair lane.from q _ is))
                (turned
                (Says Sender label (record { foreign = write_of-other q lane.queue label ne (on_it s q ready).0; no_handshake = λ ordinary. lane_label-no_pad q label (on_it s q ready).0 }))
                (tells_post plan lane Now.lane p lane.from q label false (on-off lane p lane.from q is)))
            said s q OtherWay is ready =
                shown_as plan lane pair (Post p (other_side lane.from) q) (Posted label) (posts (Left (other_side lane.from) q) (other_side lane.from) label) _
                (sight-posts lane.from lane.queue (Left (other_side lane.from) q) Receiver label ∙ ap (posted Receiver label) (sight-off lane.from lane.queue pair (other_side lane.from) q _ is))
                (turned
                (Says Receiver label (record { foreign = index_of-lane q lane.queue label (on_it s q ready).0; no_handshake = λ ordinary. lane_label-no_pad q label (on_it s q ready).0 }))
                (tells_post plan lane Now.lane p (other_side lane.from) q label false (on-off lane p (other_side lane.from) q is)))
