-- The steps of a receiver: a look, a copy, a clear and an ack, as a turn of its lane and of every other lane.
use Rattle.std.proofs.Common.{◌≡◌, ℕ, ◌+◌, ◌==◌, Bool, true, false, List, length, refl, sym, ap, ◌∙◌, inr}
use Rattle.std.specs.Prelude.{nat_lt}
use Rattle.std.proofs.lemmas.Bool.{false≢true, ne_eqb, cond-false, cond_both}
use Rattle.step_kinds.specs.Bits.{has_bit}
use Rattle.step_kinds.specs.Sides.{other_side}
use Rattle.step_kinds.specs.declared.names.LaneName.{LaneName}
use Rattle.step_kinds.specs.declared.names.Side.{Side}
use Rattle.step_kinds.specs.declared.plan.Plan.{Plan}
use Rattle.step_kinds.specs.declared.steps.Answer.{Answer}
use Rattle.step_kinds.specs.declared.steps.Answer.TheVariants.{Delivered, Cleared as ClearedFrame, Empty, ReadyFrame, Acked, Copied as CopiedPart}
use Rattle.step_kinds.specs.declared.steps.Label.{Label}
use Rattle.step_kinds.specs.declared.steps.Label.TheVariants.{Index}
use Rattle.step_kinds.specs.declared.steps.Step.TheVariants.{Look, Copy, Clear, Ack}
use Rattle.lane_model.specs.Lane.{Entry, Carries, GoesDown, chunks_in}
use Rattle.pair_model.specs.Headers.{Found, NoEntry, AnEntry}
use Rattle.ledger_model.specs.Reading.{Reading, found_entry, found_in_ledger, part_in_ledger}
use Rattle.ledger_model.specs.Sending.{posts_through}
use Rattle.ledger_laws.proofs.walk.Turn.{IsRaw, IsPiece, Strays, CopiesEntry, on_queue}
use Rattle.std.specs.List.{list_all}
use Rattle.std.specs.Prelude.{if◌then◌else◌, ◌++◌, []}
use Rattle.lane_model.specs.declared.Phase.TheVariants.{Idle, Copying, Copied, Cleared}
use Rattle.ledger_model.specs.Ledger.{LanePart, PairPart, side_of, lane_of, tally_of, posts, with_lane, with_tally, entry_in, updated}
use Rattle.ledger_model.specs.Receiving.{is_idle, is_copying, is_copied, is_cleared}
use Rattle.ledger_model.specs.Ledger.{lane_to}
use Rattle.ledger_laws.proofs.walk.Cases.{MayLookAt, found_refusals, looking, acking, clearing, copied_more, copied_entry, copied_last}
use Rattle.ledger_laws.proofs.walk.Sight.{Sight, Sender, Receiver, posted, sight, IsOff, OffReceived, QueueOff, WayOff, received-off, by_received_lane, sight-posts, sight-lane, sight-off, sight-tally, sight-tally_off}
use Rattle.ledger_laws.proofs.walk.Turn.{more_delivered, turned, Rests, FindsNone, Says, Looks, CopiesPart, CopiesLast, Clears, Acks}
use Rattle.ledger_laws.proofs.walk.Tells.{is_nothing, is_ready, on-back, on-off, at_receiver, receives-own, receives-off, tells_empty, tells_look, tells_ready, tells_part, tells_copy, tells_clear, tells_ack}
use Rattle.ledger_laws.proofs.walk.TurnAt.{TurnAt, ReadsLedger, unreached_raw, shown_as}

-- where nothing is found, no entry has its flags landed
none_there : (b : Bool) (entry : Entry) → (if b then NoEntry else found_entry entry) ≡ NoEntry → b ≡ true
none_there true entry e = refl
none_there false (Carries bytes left) e = absurd (cc)
none_there false GoesDown e = absurd (cc)

-- what is found is the next entry
piece_there : (lane : LanePart) (b : Bool) (entry : Entry) (len left : ℕ) → (lane.flagged == lane.got) ≡ b → entry_in lane lane.got ≡ entry
    → (if b then NoEntry else found_entry entry) ≡ AnEntry len left → IsPiece lane len left
piece_there lane true entry len left is at e = absurd (cc)
piece_there lane false GoesDown len left is at e = absurd (cc)
piece_there lane false (Carries bytes more) len left is at e =
    let size : length bytes ≡ len = cc in
    let same : more ≡ left = cc in
    record { some = is; bytes = bytes; at = at ∙ ap (Carries bytes) same; size = size }

module _ (plan : Plan) (lane : LaneName) (pair : PairPart) (reading : Reading) (reads : ReadsLedger plan lane pair reading)
    (todos : (side : Side) (queue : ℕ) → list_all (on_queue queue) (lane_of pair side queue).todo ≡ true) where
  abbrev Now : Sight
  Now = sight lane.from lane.queue pair

  pub look_found : (p : ℕ) (side : Side) (queue : ℕ) (r : Answer) → found_refusals r ≡ true → TurnAt plan lane pair (Look p side queue) (record { answer = r; after = pair })
  look_found p side queue r is = turned (Rests (at_receiver lane p side queue)) (tells_look plan lane Now.lane p side queue r (not_nothing r is) (not_ready r is) (at_receiver lane p side queue) refl)
    where
      not_nothing : (r : Answer) → found_refusals r ≡ true → is_nothing r ≡ false
      not_nothing Empty is = absurd (false≢true is)
      not_nothing r is = refl

      not_ready : (r : Answer) → found_refusals r ≡ true → is_ready r ≡ false
      not_ready (ReadyFrame n len) is = absurd (false≢true is)
      not_ready r is = refl

  -- on a pair that isn't raw the ledger says what is found
  abbrev Finds : Side → ℕ → Found → Type 0
  Finds sender q found = IsRaw plan lane ≡ false → found_in_ledger (lane_of pair sender q) ≡ found

  finds : (side : Side) (queue : ℕ) (found : Found) → reading.found side queue ≡ found → Finds (other_side side) queue found
  finds side queue found is no_raw = ap (λ (r : Reading). r.found side queue) (sym (reads no_raw)) ∙ is

  pub look_none : (p : ℕ) → p ≡ lane.pair → (side : Side) (queue : ℕ) → MayLookAt pair side queue → reading.found side queue ≡ NoEntry
      → TurnAt plan lane pair (Look p side queue) (record { answer = Empty; after = pair })
  look_none p e side queue may none =
      by_received_lane lane.from lane.queue
      (λ s sender q. has_bit (side_of pair s).joined q ≡ true → has_bit (side_of pair s).closed q ≡ false → is_idle (lane_of pair sender q).phase ≡ true
      → Finds sender q NoEntry → TurnAt plan lane pair (Look p s q) (record { answer = Empty; after = pair }))
      (λ joined open_yet idle none. turned (FindsNone (record { joined = joined; not_closed = open_yet; idle = idle; none = λ no_raw. none_there _ (entry_in Now.lane Now.lane.got) (none no_raw) }))
      (tells_empty plan lane Now.lane p (other_side lane.from) lane.queue true (receives-own lane p e)))
      (λ s sender q case off joined open_yet idle none. turned (Rests false)
      (tells_empty plan lane Now.lane p s q false (receives-off lane p s q (received-off lane.from lane.queue s sender q case))))
      side queue may.joined may.not_closed may.idle (finds side queue NoEntry none)

  pub look_ready : (p : ℕ) → p ≡ lane.pair → (side : Side) (queue : ℕ) → MayLookAt pair side queue → (len left : ℕ) → reading.found side queue ≡ AnEntry len left
      → TurnAt plan lane pair (Look p side queue) (record { answer = ReadyFrame (lane_to pair side queue).got len; after = looking pair side queue len left })
  look_ready p e side queue may len left found =
      by_received_lane lane.from lane.queue
      (λ s sender q. has_bit (side_of pair s).joined q ≡ true → has_bit (side_of pair s).closed q ≡ false → is_idle (lane_of pair sender q).phase ≡ true
      → Finds sender q (AnEntry len left)
      → TurnAt plan lane pair (Look p s q) (record { answer = ReadyFrame (lane_of pair sender q).got len; after = with_lane pair sender q (looked sender q) }))
      (λ joined open_yet idle found.
      shown_as plan lane pair (Look p (other_side lane.from) lane.queue) (ReadyFrame Now.lane.got len) (with_lane pair lane.from lane.queue (looked lane.from lane.queue)) _
      (sight-lane lane.from lane.queue pair (looked lane.from lane.queue))
      (turned
      (Looks len left
      (record { joined = joined; not_closed = open_yet; idle = idle; found = λ no_raw. piece_there Now.lane _ (entry_in Now.lane Now.lane.got) len left refl refl (found no_raw) }))
      (tells_ready plan lane Now.lane p (other_side lane.from) lane.queue Now.lane.got len true (receives-own lane p e) (on-back lane p e))))
      (λ s sender q case off joined open_yet idle found.
      shown_as plan lane pair (Look p s q) (ReadyFrame (lane_of pair sender q).got len) (with_lane pair sender q (looked sender q)) _
      (sight-off lane.from lane.queue pair sender q (looked sender q) off)
      (turned (Rests false) (tells_ready plan lane Now.lane p s q (lane_of pair sender q).got len false (receives-off lane p s q (received-off lane.from lane.queue s sender q case))
      (on-off lane p (other_side s) q (received-off lane.from lane.queue s sender q case)))))
      side queue may.joined may.not_closed may.idle (finds side queue (AnEntry len left) found)
    where
      looked : Side → ℕ → LanePart
      looked sender q = record (lane_of pair sender q) { phase = Copying; part = 0; len = len; left = left }

  -- on a pair that isn't raw the ledger says which bytes are copied
  abbrev Copies : Side → ℕ → List ℕ → Type 0
  Copies sender q bytes = IsRaw plan lane ≡ false → bytes ≡ part_in_ledger (lane_of pair sender q)

  copies : (side : Side) (queue : ℕ) → Copies (other_side side) queue (reading.part side queue)
  copies side queue no_raw = ap (λ (r : Reading). r.part side queue) (reads no_raw)

  pub copy_part : (p : ℕ) → p ≡ lane.pair → (side : Side) (queue : ℕ) → is_copying (lane_to pair side queue).phase ≡ true → nat_lt ((lane_to pair side queue).part + 1) (chunks_in (lane_to pair side queue).len) ≡ true
      → TurnAt plan lane pair (Copy p side queue) (copied_more pair side queue (lane_to pair side queue) ((lane_to pair side queue).gathered ++ reading.part side queue))
  copy_part p e side queue turn more =
      by_received_lane lane.from lane.queue
      (λ s sender q. let part = lane_of pair sender q in is_copying part.phase ≡ true → nat_lt (part.part + 1) (chunks_in part.len) ≡ true → Copies sender q bytes
      → TurnAt plan lane pair (Copy p s q) (record { answer = CopiedPart part.got part.part; after = with_lane pair sender q (copied sender q) }))
      (λ turn more are.
      shown_as plan lane pair (Copy p (other_side lane.from) lane.queue) _ (with_lane pair lane.from lane.queue (copied lane.from lane.queue)) _ (sight-lane lane.from lane.queue pair _)
      (turned (CopiesPart bytes (record { turn = turn; more = more; are = are })) (tells_part plan lane Now.lane p (other_side lane.from) lane.queue Now.lane.got Now.lane.part true (on-back lane p e))))
      (λ s sender q case off turn more are.
      let part = lane_of pair sender q in
      shown_as plan lane pair (Copy p s q) (CopiedPart part.got part.part) (with_lane pair sender q (copied sender q)) _ (sight-off lane.from lane.queue pair sender q _ off)
      (turned (Rests false) (tells_part plan lane Now.lane p s q part.got part.part false (on-off lane p (other_side s) q (received-off lane.from lane.queue s sender q case)))))
      side queue turn more (copies side queue)
    where
      bytes : List ℕ
      bytes = reading.part side queue

      copied : Side → ℕ → LanePart
      copied sender q = record (lane_of pair sender q) { part = (lane_of pair sender q).part + 1; gathered = (lane_of pair sender q).gathered ++ bytes }

  pub copy_entry : (p : ℕ) → p ≡ lane.pair → (side : Side) (queue : ℕ) → is_copying (lane_to pair side queue).phase ≡ true → nat_lt ((lane_to pair side queue).part + 1) (chunks_in (lane_to pair side queue).len) ≡ false
      → nat_lt 0 (lane_to pair side queue).left ≡ true
      → TurnAt plan lane pair (Copy p side queue) (copied_entry pair side queue (lane_to pair side queue) ((lane_to pair side queue).gathered ++ reading.part side queue))
  copy_entry p e side queue turn all others =
      by_received_lane lane.from lane.queue
      (λ s sender q. let part = lane_of pair sender q in is_copying part.phase ≡ true → nat_lt (part.part + 1) (chunks_in part.len) ≡ false → nat_lt 0 part.left ≡ true → Copies sender q bytes
      → TurnAt plan lane pair (Copy p s q) (record { answer = CopiedPart part.got part.part; after = with_lane pair sender q (copied sender q) }))
      (λ turn all others are.
      shown_as plan lane pair (Copy p (other_side lane.from) lane.queue) _ (with_lane pair lane.from lane.queue (copied lane.from lane.queue)) _ (sight-lane lane.from lane.queue pair _)
      (turned (CopiesEntry bytes (record { copy = record { turn = turn; more = all; are = are }; left = others }))
      (tells_part plan lane Now.lane p (other_side lane.from) lane.queue Now.lane.got Now.lane.part true (on-back lane p e))))
      (λ s sender q case off turn all others are.
      let part = lane_of pair sender q in
      shown_as plan lane pair (Copy p s q) (CopiedPart part.got part.part) (with_lane pair sender q (copied sender q)) _ (sight-off lane.from lane.queue pair sender q _ off)
      (turned (Rests false) (tells_part plan lane Now.lane p s q part.got part.part false (on-off lane p (other_side s) q (received-off lane.from lane.queue s sender q case)))))
      side queue turn all others (copies side queue)
    where
      bytes : List ℕ
      bytes = reading.part side queue

      copied : Side → ℕ → LanePart
      copied sender q = record (lane_of pair sender q) { got = (lane_of pair sender q).got + 1; phase = Copied; gathered = (lane_of pair sender q).gathered ++ bytes }

  pub copy_last : (p : ℕ) → p ≡ lane.pair → (side : Side) (queue : ℕ) → is_copying (lane_to pair side queue).phase ≡ true
      → nat_lt ((lane_to pair side queue).part + 1) (chunks_in (lane_to pair side queue).len) ≡ false → nat_lt 0 (lane_to pair side queue).left ≡ false
      → TurnAt plan lane pair (Copy p side queue) (copied_last pair side queue (lane_to pair side queue) ((lane_to pair side queue).gathered ++ reading.part side queue))
  copy_last p e side queue turn all last =
      by_received_lane lane.from lane.queue
      (λ s sender q. let part = lane_of pair sender q in is_copying part.phase ≡ true → nat_lt (part.part + 1) (chunks_in part.len) ≡ false → nat_lt 0 part.left ≡ false → Copies sender q bytes
      → TurnAt plan lane pair (Copy p s q) (record { answer = Delivered part.done (part.gathered ++ bytes); after = after sender q }))
      (λ turn all last are.
      let part = Now.lane in
      shown_as plan lane pair (Copy p (other_side lane.from) lane.queue) (Delivered part.done (part.gathered ++ bytes)) (after lane.from lane.queue) _
      (sight-tally lane.from lane.queue (copied lane.from lane.queue) pair.link.session _
      ∙ ap (λ (s : Sight). record s { tally = updated Now.tally Now.session (more_delivered (Now.tally Now.session)) }) (sight-lane lane.from lane.queue pair _))
      (turned (CopiesLast bytes (record { copy = record { turn = turn; more = all; are = are }; left = last }))
      (tells_copy plan lane Now.lane p (other_side lane.from) lane.queue part.done (part.gathered ++ bytes) true (on-back lane p e))))
      (λ s sender q case off turn all last are.
      let part = lane_of pair sender q in
      shown_as plan lane pair (Copy p s q) (Delivered part.done (part.gathered ++ bytes)) (after sender q) _
      (sight-tally_off lane.from lane.queue (copied sender q) sender q pair.link.session _ off ∙ sight-off lane.from lane.queue pair sender q _ off)
      (turned (Rests false)
      (tells_copy plan lane Now.lane p s q part.done (part.gathered ++ bytes) false (on-off lane p (other_side s) q (received-off lane.from lane.queue s sender q case)))))
      side queue turn all last (copies side queue)
    where
      bytes : List ℕ
      bytes = reading.part side queue

      copied : Side → ℕ → PairPart
      copied sender q = with_lane pair sender q (record (lane_of pair sender q) { got = (lane_of pair sender q).got + 1; phase = Copied; gathered = []; done = (lane_of pair sender q).done + 1 })

      after : Side → ℕ → PairPart
      after sender q = with_tally (copied sender q) sender q pair.link.session (more_delivered (tally_of pair sender q pair.link.session))

  pub clear : (p : ℕ) → p ≡ lane.pair → (side : Side) (queue : ℕ) → is_copied (lane_to pair side queue).phase ≡ true
      → TurnAt plan lane pair (Clear p side queue) (record { answer = ClearedFrame (lane_to pair side queue).cleared; after = clearing pair side queue })
  clear p e side queue turn =
      by_received_lane lane.from lane.queue
      (λ s sender q. let part = lane_of pair sender q in is_copied part.phase ≡ true
      → TurnAt plan lane pair (Clear p s q) (record { answer = ClearedFrame part.cleared; after = with_lane pair sender q (record part { cleared = part.cleared + 1; phase = Cleared }) }))
      (λ turn.
      shown_as plan lane pair (Clear p (other_side lane.from) lane.queue) (ClearedFrame Now.lane.cleared)
      (with_lane pair lane.from lane.queue (record Now.lane { cleared = Now.lane.cleared + 1; phase = Cleared })) _ (sight-lane lane.from lane.queue pair _)
      (turned (Clears (record { turn = turn })) (tells_clear plan lane Now.lane p (other_side lane.from) lane.queue Now.lane.cleared true (on-back lane p e))))
      (λ s sender q case off turn.
      let part = lane_of pair sender q in
      shown_as plan lane pair (Clear p s q) (ClearedFrame part.cleared) (with_lane pair sender q (record part { cleared = part.cleared + 1; phase = Cleared })) _ (sight-off lane.from lane.queue pair sender q _ off)
      (turned (Rests false) (tells_clear plan lane Now.lane p s q part.cleared false (on-off lane p (other_side s) q (received-off lane.from lane.queue s sender q case)))))
      side queue turn

  pub ack : (p : ℕ) → p ≡ lane.pair → (side : Side) (queue : ℕ) → is_cleared (lane_to pair side queue).phase ≡ true
      → TurnAt plan lane pair (Ack p side queue)
      (record { answer = Acked (lane_to pair side queue).acked; after = posts_through reading (acking pair side queue) side (Index queue (lane_to pair side queue).acked) })
  ack p e side queue turn =
      by_received_lane lane.from lane.queue (λ s sender q. is_cleared (lane_of pair sender q).phase ≡ true → Done s sender q (posts_through reading (acked sender q) s (label sender q))) own off side queue turn
    where
      label : Side → ℕ → Label
      label sender q = Index q (lane_of pair sender q).acked

      acked : Side → ℕ → PairPart
      acked sender q = with_lane pair sender q (record (lane_of pair sender q) { acked = (lane_of pair sender q).acked + 1; phase = Idle })

      Done : Side → Side → ℕ → PairPart → Type 0
      Done s sender q after = TurnAt plan lane pair (Ack p s q) (record { answer = Acked (lane_of pair sender q).acked; after = after })

      own : is_cleared Now.lane.phase ≡ true → Done (other_side lane.from) lane.from lane.queue (posts_through reading (acked lane.from lane.queue) (other_side lane.from) (label lane.from lane.queue))
      own turn =
          let here = label lane.from lane.queue in
          let after = acked lane.from lane.queue in
          let told = tells_ack plan lane Now.lane p (other_side lane.from) lane.queue Now.lane.acked true (on-back lane p e) in
          cond_both (reading.reaches (other_side lane.from) here) (posts after (other_side lane.from) here) after (Done (other_side lane.from) lane.from lane.queue)
          (λ reached. shown_as plan lane pair (Ack p (other_side lane.from) lane.queue) (Acked Now.lane.acked) (posts after (other_side lane.from) here) _
          (sight-posts lane.from lane.queue after Receiver here ∙ ap (posted Receiver here) (sight-lane lane.from lane.queue pair _))
          (turned (Acks (record { turn = turn })) told))
          (λ lost. shown_as plan lane pair (Ack p (other_side lane.from) lane.queue) (Acked Now.lane.acked) after _ (sight-lane lane.from lane.queue pair _)
          (turned (Strays _ (record { raw_pair = unreached_raw plan lane pair reading reads (other_side lane.from) here lost; own = todos lane.from lane.queue; hand = inr (turn, refl) })) told))

      off : (s sender : Side) (q : ℕ) → OffReceived lane.from lane.queue s sender q → IsOff lane.from lane.queue sender q → is_cleared (lane_of pair sender q).phase ≡ true
          → Done s sender q (posts_through reading (acked sender q) s (label sender q))
      off s sender q case is turn =
          cond_both (reading.reaches s (label sender q)) (posts (acked sender q) s (label sender q)) (acked sender q) (Done s sender q) (λ reached. said s sender q case is)
          (λ lost. shown_as plan lane pair (Ack p s q) (Acked (lane_of pair sender q).acked) (acked sender q) _ (sight-off lane.from lane.queue pair sender q _ is)
          (turned (Rests false) (tells_ack plan lane Now.lane p s q (lane_of pair sender q).acked false (on-off lane p (other_side s) q (received-off lane.from lane.queue s sender q case)))))
        where
          said : (s sender : Side) (q : ℕ) → OffReceived lane.from lane.queue s sender q → IsOff lane.from lane.queue sender q → Done s sender q (posts (acked sender q) s (label sender q))
          said s sender q (QueueOff ne) is =
              shown_as plan lane pair (Ack p (other_side lane.from) q) (Acked (lane_of pair lane.from q).acked) (posts (acked lane.from q) (other_side lane.from) (label lane.from q)) _
              (sight-posts lane.from lane.queue (acked lane.from q) Receiver (label lane.from q) ∙ ap (posted Receiver (label lane.from q)) (sight-off lane.from lane.queue pair lane.from q _ is))
              (turned (Says Receiver (label lane.from q) (record { foreign = cond-false (q == lane.queue) _ _ (ne_eqb q lane.queue (λ e. ne (sym e))); no_handshake = λ ordinary. refl }))
              (tells_ack plan lane Now.lane p (other_side lane.from) q (lane_of pair lane.from q).acked false (on-off lane p (other_side (other_side lane.from)) q (received-off lane.from lane.queue (other_side lane.from) lane.from q (QueueOff ne)))))
          said s sender q WayOff is =
              let peer = other_side lane.from in
              shown_as plan lane pair (Ack p lane.from q) (Acked (lane_of pair peer q).acked) (posts (acked peer q) lane.from (label peer q)) _
              (sight-posts lane.from lane.queue (acked peer q) Sender (label peer q) ∙ ap (posted Sender (label peer q)) (sight-off lane.from lane.queue pair peer q _ is))
              (turned (Says Sender (label peer q) (record { foreign = refl; no_handshake = λ ordinary. refl })) (tells_ack plan lane Now.lane p lane.from q (lane_of pair peer q).acked false (on-off lane p peer q is)))
