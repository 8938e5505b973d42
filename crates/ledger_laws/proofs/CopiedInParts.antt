-- An entry is copied in as many parts as it has chunks, in order, on raw pairs too.
use Rattle.std.proofs.Common.{◌≡◌, ℕ, ◌+◌, ◌<◌, ◌==◌, ◌&&◌, ◌⊎◌, true, false, Option, Some, None, List, [], ◌∷◌, ◌++◌, length, refl, sym, ap, ◌∙◌, subst, arith, inl, inr}
use Rattle.std.specs.Prelude.{if◌then◌else◌, max, nat_lt}
use Rattle.std.proofs.lemmas.Bool.{false≢true, both_ways, ne_eqb, cond-true, cond-false, ltb-true, ltb-false}
use Rattle.step_kinds.specs.Sides.{other_side, same_side}
use Rattle.step_kinds.specs.Subject.{subject_of}
use Rattle.step_kinds.specs.declared.names.LaneName.{LaneName}
use Rattle.step_kinds.specs.declared.names.Side.{Side}
use Rattle.step_kinds.specs.declared.names.Side.TheVariants.{A, B}
use Rattle.step_kinds.specs.declared.plan.PairPlan.{PairPlan}
use Rattle.step_kinds.specs.declared.plan.Plan.{Plan}
use Rattle.step_kinds.specs.declared.steps.Answer.{Answer}
use Rattle.step_kinds.specs.declared.steps.Answer.TheVariants.{Ok as Done, OkSession, Posted, ReadyFrame, Copied as CopiedPart, Delivered, Cleared as ClearedFrame}
use Rattle.step_kinds.specs.declared.steps.Label.{Label}
use Rattle.step_kinds.specs.declared.steps.Label.TheVariants.{Flag, Down, Bell, Index, Pad}
use Rattle.step_kinds.specs.declared.steps.Step.{Step}
use Rattle.step_kinds.specs.declared.steps.Step.TheVariants.{Enable, Train, Break, DropDone, Clean, Offer, Check, Ready, Join, Begin, QpDown, Xbegin, Post, Land, Look, Copy, Clear, Ack, Wake, Spad, Poke}
use Rattle.lane_model.specs.Lane.{Entry, GoesDown, chunks_in}
use Rattle.lane_model.specs.declared.Phase.{Phase}
use Rattle.lane_model.specs.declared.Phase.TheVariants.{Idle, Copying, Copied, Cleared}
use Rattle.pair_model.specs.Both.{Both, at_side}
use Rattle.pair_model.specs.Ethernet.{ethernet_frame}
use Rattle.pair_model.specs.Plans.{dev_plan, pair_plan}
use Rattle.pair_model.specs.Sizes.{sizes_of}
use Rattle.pair_model.specs.Headers.{Bytes}
use Rattle.ledger_model.specs.Ledger.{LanePart, PairPart, lane_of, lane_to, with_lane}
use Rattle.ledger_model.specs.Log.{Answered, is_on, Looked, one_copied, looked_after, looked_in, delivered, log_of, ledger_of}
use Rattle.ledger_model.specs.Next.{read_next, outcome_in}
use Rattle.ledger_model.specs.Outcome.{Outcome}
use Rattle.ledger_model.specs.Pieces.{pieces_of}
use Rattle.ledger_model.specs.Reading.{Reading, reading_of}
use Rattle.ledger_model.specs.Receiving.{lands_on, taken_out, is_copying, is_copied, copy_step, clear_step}
use Rattle.ledger_model.specs.Sending.{begun_lane, frame_begun, with_next, posts_through}
use Rattle.ledger_laws.specs.Laws.{FitsLook, CopiedInParts}
use Rattle.ledger_laws.proofs.AtStart.{fresh-lane}
use Rattle.ledger_laws.proofs.EachPair.{HoldsOfLog, AnyStep, log_after, same-posts, same-posts_raw, same-through}
use Rattle.ledger_laws.proofs.FrameNumbers.{done_is_delivered}
use Rattle.ledger_laws.proofs.Hands.{clears_last}
use Rattle.ledger_laws.proofs.LogGrowth.{answer_of, made_by, left_by}
use Rattle.ledger_laws.proofs.LogReaders.{looked_after-last}
use Rattle.ledger_laws.proofs.walk.Cases.{found_refusals, refuses, Refused, enable_cases, train_cases, break_cases, drop_cases, clean_cases, offer_cases, check_cases, ready_cases, join_cases, begin_cases, qpdown_cases, xbegin_cases, post_cases, land_cases, look_cases, copy_cases, clear_cases, ack_cases, acking, wake_cases, trained, cleaned, offering, readied}
use Rattle.ledger_laws.proofs.walk.Logs.{all_fit}
use Rattle.ledger_laws.proofs.walk.Sight.{IsOff, by_lane, lane-own, lane-off}
use Rattle.ledger_laws.proofs.walk.Tells.{on-own, on-off}

-- Where a receiver stands

record Stand : Type 0 where
  phase : Phase
  got : ℕ
  part : ℕ
  len : ℕ

abbrev stand : LanePart → Stand
stand lane = record { phase = lane.phase; got = lane.got; part = lane.part; len = lane.len }

-- what the log says of it
record Knows (looked : Option Looked) (at : Stand) : Type 0 where
  copying : is_copying at.phase ≡ true → (looked ≡ Some (record { number = at.got; len = at.len; copies = at.part })) × (at.part < max 1 (chunks_in at.len))
  copied : is_copied at.phase ≡ true → (found : Looked) × ((looked ≡ Some found) × ((found.copies ≡ max 1 (chunks_in found.len)) × (found.number + 1 ≡ at.got)))

-- in a phase in which it has no entry
knows_none : (looked : Option Looked) (at : Stand) → is_copying at.phase ≡ false → is_copied at.phase ≡ false → Knows looked at
knows_none looked at a b = record { copying = λ c. absurd (both_ways (is_copying at.phase) a c); copied = λ c. absurd (both_ways (is_copied at.phase) b c) }

-- What an entry of the log tells a side that receives on a queue, named as the lane on which it sends

abbrev told_next : LaneName → Option Looked → Answered → Option Looked
told_next own looked made = looked_after own.pair own.from own.queue looked (made ∷ [])

told-elsewhere : (own : LaneName) (looked : Option Looked) (step : Step) (answer : Answer) → (subject_of step ≡ own.pair → ⊥) → told_next own looked (record { step = step; answer = answer }) ≡ looked
told-elsewhere own looked (Look p side queue) (ReadyFrame number len) ne =
    cond-false (is_on own p side queue) (Some (record { number = number; len = len; copies = 0 })) looked (ap (λ b. b && (same_side side own.from && (queue == own.queue))) (ne_eqb p own.pair ne))
told-elsewhere own looked (Copy p side queue) (CopiedPart number part) ne =
    cond-false (is_on own p side queue) (one_copied looked) looked (ap (λ b. b && (same_side side own.from && (queue == own.queue))) (ne_eqb p own.pair ne))
told-elsewhere own looked (Copy p side queue) (Delivered number frame) ne =
    cond-false (is_on own p side queue) (one_copied looked) looked (ap (λ b. b && (same_side side own.from && (queue == own.queue))) (ne_eqb p own.pair ne))
told-elsewhere own looked step answer ne = refl

look-refused : (own : LaneName) (looked : Option Looked) (p : ℕ) (side : Side) (queue : ℕ) (r : Answer) → found_refusals r ≡ true → told_next own looked (record { step = Look p side queue; answer = r }) ≡ looked
look-refused own looked p side queue (ReadyFrame number len) is = absurd (false≢true is)
look-refused own looked p side queue r is = refl

copy-refused : (own : LaneName) (looked : Option Looked) (p : ℕ) (side : Side) (queue : ℕ) (r : Answer) → refuses r ≡ true → told_next own looked (record { step = Copy p side queue; answer = r }) ≡ looked
copy-refused own looked p side queue (CopiedPart number part) is = absurd (false≢true is)
copy-refused own looked p side queue (Delivered number frame) is = absurd (false≢true is)
copy-refused own looked p side queue r is = refl

-- The lane that a side receives, after a step

off_other : (from : Side) (q : ℕ) (side : Side) (queue : ℕ) → IsOff from q side queue → IsOff (other_side from) q (other_side side) queue
off_other from q side queue off = record { named = ap (λ b. b && (queue == q)) (across side from) ∙ off.named; placed = ap (λ b. b && (q == queue)) (across side from) ∙ off.placed }
  where
    across : (s f : Side) → same_side (other_side s) (other_side f) ≡ same_side s f
    across A A = refl
    across A B = refl
    across B A = refl
    across B B = refl

stand_lane : (from : Side) (q : ℕ) (pair : PairPart) (side : Side) (queue : ℕ) (part : LanePart) → stand part ≡ stand (lane_of pair side queue)
    → stand (lane_of (with_lane pair side queue part) from q) ≡ stand (lane_of pair from q)
stand_lane from q pair side queue =
    by_lane from q (λ s k. (part : LanePart) → stand part ≡ stand (lane_of pair s k) → stand (lane_of (with_lane pair s k part) from q) ≡ stand (lane_of pair from q))
    (λ part e. ap stand (lane-own from q pair part) ∙ e) (λ s k c off part e. ap stand (lane-off from q pair s k part off)) side queue

stand_begun : (queue : ℕ) (lane : LanePart) (entries : List Entry) → stand (begun_lane queue lane entries) ≡ stand lane
stand_begun queue lane [] = refl
stand_begun queue lane (first ∷ others) = refl

stand_landed : (from : Side) (q : ℕ) (pair : PairPart) (side : Side) (label : Label) → stand (lane_of (lands_on pair side label) from q) ≡ stand (lane_of pair from q)
stand_landed from q pair side (Flag queue n) = stand_lane from q pair side queue _ refl
stand_landed from q pair side (Down queue n) = stand_lane from q pair side queue _ refl
stand_landed from q pair side (Bell queue) = refl
stand_landed from q pair side (Index queue n) = stand_lane from q pair (other_side side) queue _ refl
stand_landed from q pair side (Pad i value) = refl
stand_landed from q pair side label = refl

-- what a step does to the receiver is what the log is told of it
record Stands (own : LaneName) (before : PairPart) (step : Step) (o : Outcome) : Type 0 where
  is : (looked : Option Looked) → Knows looked (stand (lane_to before own.from own.queue)) → Knows (told_next own looked (record { step = step; answer = o.answer })) (stand (lane_to o.after own.from own.queue))

module _ (plan : Plan) (own : LaneName) (reading : Reading) (bytes : Bytes) (pair : PairPart) where
  abbrev Own : PairPlan
  Own = pair_plan plan own.pair

  abbrev Now : LanePart
  Now = lane_to pair own.from own.queue

  abbrev StandsSo : Step → Outcome → Type 0
  StandsSo step o = Stands own pair step o

  abbrev TellsNone : Step → Answer → Type 0
  TellsNone step answer = (looked : Option Looked) → told_next own looked (record { step = step; answer = answer }) ≡ looked

  -- nothing is told, and the receiver stands where it stood
  still : {step : Step} {o : Outcome} → TellsNone step o.answer → stand (lane_to o.after own.from own.queue) ≡ stand Now → StandsSo step o
  still {step} {o} none same = record { is = λ looked h. subst (λ k. Knows k (stand (lane_to o.after own.from own.queue))) (sym (none looked)) (subst (Knows looked) (sym same) h) }

  quiet : {step : Step} {o : Outcome} → TellsNone step o.answer → o.after.lanes ≡ pair.lanes → StandsSo step o
  quiet none lanes = still none (ap (λ (l : Both (ℕ → LanePart)). stand (at_side l (other_side own.from) own.queue)) lanes)

  -- one lane of the pair is changed
  sends : {step : Step} {o : Outcome} → TellsNone step o.answer → (side : Side) (queue : ℕ) (part : LanePart) → stand part ≡ stand (lane_of pair side queue)
      → o.after.lanes ≡ (with_lane pair side queue part).lanes → StandsSo step o
  sends none side queue part same lanes =
      still none (ap (λ (l : Both (ℕ → LanePart)). stand (at_side l (other_side own.from) own.queue)) lanes ∙ stand_lane (other_side own.from) own.queue pair side queue part same)

  -- the receiver is changed, and what is then known of it is shown
  turns : {step : Step} {o : Outcome} (part : LanePart) → o.after.lanes ≡ (with_lane pair (other_side own.from) own.queue part).lanes
      → ((looked : Option Looked) → Knows looked (stand Now) → Knows (told_next own looked (record { step = step; answer = o.answer })) (stand part)) → StandsSo step o
  turns {step} {o} part lanes next = record {
    is = λ looked h.
        subst (Knows (told_next own looked (record { step = step; answer = o.answer })))
        (sym (ap (λ (l : Both (ℕ → LanePart)). stand (at_side l (other_side own.from) own.queue)) lanes ∙ ap stand (lane-own (other_side own.from) own.queue pair part))) (next looked h);
  }

  -- another receiver of the pair is changed
  aside : {step : Step} {o : Outcome} → TellsNone step o.answer → (side : Side) (queue : ℕ) → IsOff own.from own.queue side queue → (part : LanePart)
      → o.after.lanes ≡ (with_lane pair (other_side side) queue part).lanes → StandsSo step o
  aside none side queue off part lanes =
      still none (ap (λ (l : Both (ℕ → LanePart)). stand (at_side l (other_side own.from) own.queue)) lanes
      ∙ ap stand (lane-off (other_side own.from) own.queue pair (other_side side) queue part (off_other own.from own.queue side queue off)))

  look_stands : (p : ℕ) → p ≡ own.pair → (side : Side) (queue : ℕ) → StandsSo (Look p side queue) (read_next plan.devs Own reading bytes pair (Look p side queue))
  look_stands p on =
      by_lane own.from own.queue (λ side queue. StandsSo (Look p side queue) (read_next plan.devs Own reading bytes pair (Look p side queue)))
      (look_cases reading (StandsSo (Look p own.from own.queue)) pair own.from own.queue (λ r no found. quiet (λ looked. look-refused own looked p own.from own.queue r found) refl)
      (λ may empty. quiet (λ looked. refl) refl)
      (λ may len left found. turns (record Now { phase = Copying; part = 0; len = len; left = left }) refl
      (λ looked h. record {
        copying = λ _. (cond-true (is_on own p own.from own.queue) (Some (record { number = Now.got; len = len; copies = 0 })) looked (on-own own p on), omega arith);
        copied = λ c. absurd (false≢true c);
      }))
      (λ may. quiet (λ looked. refl) refl))
      (λ side queue c off.
      look_cases reading (StandsSo (Look p side queue)) pair side queue (λ r no found. quiet (λ looked. look-refused own looked p side queue r found) refl)
      (λ may empty. quiet (λ looked. refl) refl)
      (λ may len left found.
      aside (λ looked. cond-false (is_on own p side queue) (Some (record { number = (lane_to pair side queue).got; len = len; copies = 0 })) looked (on-off own p side queue off)) side queue off
      (record (lane_to pair side queue) { phase = Copying; part = 0; len = len; left = left }) refl)
      (λ may. quiet (λ looked. refl) refl))

  -- one copy more of the entry that the receiver copies
  one_more : (looked : Option Looked) (p : ℕ) → p ≡ own.pair → Knows looked (stand Now) → is_copying Now.phase ≡ true
      → (if is_on own p own.from own.queue then one_copied looked else looked) ≡ Some (record { number = Now.got; len = Now.len; copies = Now.part + 1 })
  one_more looked p on h turn = cond-true (is_on own p own.from own.queue) (one_copied looked) looked (on-own own p on) ∙ ap one_copied (h.copying turn).0

  copy_stands : (p : ℕ) → p ≡ own.pair → (side : Side) (queue : ℕ) → StandsSo (Copy p side queue) (read_next plan.devs Own reading bytes pair (Copy p side queue))
  copy_stands p on =
      by_lane own.from own.queue (λ side queue. StandsSo (Copy p side queue) (read_next plan.devs Own reading bytes pair (Copy p side queue)))
      (copy_cases reading (StandsSo (Copy p own.from own.queue)) pair own.from own.queue (λ r no. quiet (λ looked. copy-refused own looked p own.from own.queue r no.is) refl)
      (λ turn more. turns (record Now { part = Now.part + 1; gathered = Now.gathered ++ reading.part own.from own.queue }) refl
      (λ looked h. record {
        copying = λ _. (one_more looked p on h turn, let less = ltb-true (Now.part + 1) (chunks_in Now.len) more in omega arith);
        copied = λ c. absurd (both_copied Now.phase turn c);
      }))
      (λ turn all others. turns (record Now { got = Now.got + 1; phase = Copied; gathered = Now.gathered ++ reading.part own.from own.queue }) refl (λ looked h. last looked h turn all))
      (λ turn all whole. turns (record Now { got = Now.got + 1; phase = Copied; gathered = []; done = Now.done + 1 }) refl (λ looked h. last looked h turn all)))
      (λ side queue c off.
      copy_cases reading (StandsSo (Copy p side queue)) pair side queue (λ r no. quiet (λ looked. copy-refused own looked p side queue r no.is) refl)
      (λ turn more. aside (λ looked. cond-false (is_on own p side queue) (one_copied looked) looked (on-off own p side queue off)) side queue off
      (record (lane_to pair side queue) { part = (lane_to pair side queue).part + 1; gathered = (lane_to pair side queue).gathered ++ reading.part side queue }) refl)
      (λ turn all others. aside (λ looked. cond-false (is_on own p side queue) (one_copied looked) looked (on-off own p side queue off)) side queue off
      (record (lane_to pair side queue) { got = (lane_to pair side queue).got + 1; phase = Copied; gathered = (lane_to pair side queue).gathered ++ reading.part side queue }) refl)
      (λ turn all whole. aside (λ looked. cond-false (is_on own p side queue) (one_copied looked) looked (on-off own p side queue off)) side queue off
      (record (lane_to pair side queue) { got = (lane_to pair side queue).got + 1; phase = Copied; gathered = []; done = (lane_to pair side queue).done + 1 }) refl))
    where
      both_copied : (phase : Phase) → is_copying phase ≡ true → is_copied phase ≡ true → ⊥
      both_copied Copying a b = false≢true b
      both_copied Idle a b = false≢true a
      both_copied Copied a b = false≢true a
      both_copied Cleared a b = false≢true a

      last : (looked : Option Looked) → Knows looked (stand Now) → is_copying Now.phase ≡ true → nat_lt (Now.part + 1) (chunks_in Now.len) ≡ false
          → Knows (if is_on own p own.from own.queue then one_copied looked else looked) (record { phase = Copied; got = Now.got + 1; part = Now.part; len = Now.len })
      last looked h turn all = record {
        copying = λ c. absurd (false≢true c);
        copied = λ _. (
          record { number = Now.got; len = Now.len; copies = Now.part + 1 },
          (one_more looked p on h turn, (let below = (h.copying turn).1 in let no_more = ltb-false (Now.part + 1) (chunks_in Now.len) all in omega arith, refl)),
        );
      }

  clear_stands : (p : ℕ) (side : Side) (queue : ℕ) → StandsSo (Clear p side queue) (read_next plan.devs Own reading bytes pair (Clear p side queue))
  clear_stands p =
      by_lane own.from own.queue (λ side queue. StandsSo (Clear p side queue) (read_next plan.devs Own reading bytes pair (Clear p side queue)))
      (clear_cases (StandsSo (Clear p own.from own.queue)) pair own.from own.queue (λ r no. quiet (λ looked. refl) refl)
      (λ _. turns (record Now { cleared = Now.cleared + 1; phase = Cleared }) refl (λ looked h. knows_none looked _ refl refl)))
      (λ side queue c off.
      clear_cases (StandsSo (Clear p side queue)) pair side queue (λ r no. quiet (λ looked. refl) refl)
      (λ _. aside (λ looked. refl) side queue off (record (lane_to pair side queue) { cleared = (lane_to pair side queue).cleared + 1; phase = Cleared }) refl))

  ack_stands : (p : ℕ) (side : Side) (queue : ℕ) → StandsSo (Ack p side queue) (read_next plan.devs Own reading bytes pair (Ack p side queue))
  ack_stands p =
      by_lane own.from own.queue (λ side queue. StandsSo (Ack p side queue) (read_next plan.devs Own reading bytes pair (Ack p side queue)))
      (ack_cases reading (StandsSo (Ack p own.from own.queue)) pair own.from own.queue (λ r no. quiet (λ looked. refl) refl)
      (λ _. turns (record Now { acked = Now.acked + 1; phase = Idle })
      (same-through (λ (q : PairPart). q.lanes) reading (acking pair own.from own.queue) own.from (Index own.queue Now.acked) (λ _. refl)) (λ looked h. knows_none looked _ refl refl)))
      (λ side queue c off.
      ack_cases reading (StandsSo (Ack p side queue)) pair side queue (λ r no. quiet (λ looked. refl) refl)
      (λ _. aside (λ looked. refl) side queue off (record (lane_to pair side queue) { acked = (lane_to pair side queue).acked + 1; phase = Idle })
      (same-through (λ (q : PairPart). q.lanes) reading (acking pair side queue) side (Index queue (lane_to pair side queue).acked) (λ _. refl))))

  train_stands : (p : ℕ) → StandsSo (Train p) (record { answer = OkSession (pair.link.session + 1); after = trained pair })
  train_stands p = record { is = λ looked h. knows_none looked _ (fresh own.from).0 (fresh own.from).1 }
    where
      fresh : (to : Side) → (is_copying (lane_to (trained pair) to own.queue).phase ≡ false) × (is_copied (lane_to (trained pair) to own.queue).phase ≡ false)
      fresh A = (refl, refl)
      fresh B = (refl, refl)

  clean_stands : (p : ℕ) (side : Side) → StandsSo (Clean p side) (record { answer = Done; after = cleaned pair side })
  clean_stands p side = record { is = λ looked h. go own.from side looked h }
    where
      go : (to s : Side) (looked : Option Looked) → Knows looked (stand (lane_to pair to own.queue)) → Knows looked (stand (lane_to (cleaned pair s) to own.queue))
      go A A looked h = knows_none looked _ refl refl
      go B B looked h = knows_none looked _ refl refl
      go A B looked h = h
      go B A looked h = h

  stands_next : (step : Step) → subject_of step ≡ own.pair → StandsSo step (read_next plan.devs Own reading bytes pair step)
  stands_next (Enable p side) e = enable_cases (StandsSo (Enable p side)) pair side (λ r no. quiet (λ looked. refl) refl) (λ _. quiet (λ looked. refl) refl)
  stands_next (Train p) e = train_cases (StandsSo (Train p)) pair (λ r no. quiet (λ looked. refl) refl) (λ _. train_stands p)
  stands_next (Break p) e = break_cases (StandsSo (Break p)) pair (λ r no. quiet (λ looked. refl) refl) (λ _. quiet (λ looked. refl) refl)
  stands_next (DropDone p) e = drop_cases (StandsSo (DropDone p)) pair (λ r no. quiet (λ looked. refl) refl) (λ _. quiet (λ looked. refl) refl)
  stands_next (Clean p side) e = clean_cases (StandsSo (Clean p side)) pair side (λ r no. quiet (λ looked. refl) refl) (λ _. clean_stands p side)
  stands_next (Offer p side) e =
      offer_cases (StandsSo (Offer p side)) Own pair side (λ r no. quiet (λ looked. refl) refl) (λ up more. quiet (λ looked. refl) (same-posts (λ (q : PairPart). q.lanes) (offering pair side) side _ (λ _. refl)))
  stands_next (Check p side) e = check_cases (StandsSo (Check p side)) Own pair side (λ r no. quiet (λ looked. refl) refl) (λ _. quiet (λ looked. refl) refl)
  stands_next (Ready p side queue) e =
      ready_cases (StandsSo (Ready p side queue)) pair side queue (λ r no. quiet (λ looked. refl) refl)
      (λ up checked. quiet (λ looked. refl) (same-posts (λ (q : PairPart). q.lanes) (readied pair side queue) side _ (λ _. refl)))
  stands_next (Join p side queue) e = join_cases (StandsSo (Join p side queue)) pair side queue (λ r no. quiet (λ looked. refl) refl) (λ up ready asked. quiet (λ looked. refl) refl)
  stands_next (Begin p side queue frame) e =
      let pieces = pieces_of (sizes_of Own side queue).largest frame in
      begin_cases reading (StandsSo (Begin p side queue frame)) (sizes_of Own side queue) pair side queue frame (λ r no. quiet (λ looked. refl) refl)
      (λ may. sends (λ looked. refl) side queue (frame_begun queue (lane_of pair side queue) pieces) (stand_begun queue (lane_of pair side queue) pieces) refl)
  stands_next (QpDown p side queue) e =
      qpdown_cases reading (StandsSo (QpDown p side queue)) (sizes_of Own side queue) pair side queue (λ r no. quiet (λ looked. refl) refl)
      (λ may. sends (λ looked. refl) side queue (begun_lane queue (lane_of pair side queue) (GoesDown ∷ [])) refl refl)
  stands_next (Xbegin p side queue dev dst kind payload) e =
      let pieces = pieces_of (sizes_of Own side queue).largest (ethernet_frame dst (dev_plan plan.devs dev).address kind payload) in
      xbegin_cases reading (StandsSo (Xbegin p side queue dev dst kind payload)) (sizes_of Own side queue) (dev_plan plan.devs dev) pair side queue dst kind payload (λ r no. quiet (λ looked. refl) refl)
      (λ may. sends (λ looked. refl) side queue (frame_begun queue (lane_of pair side queue) pieces) (stand_begun queue (lane_of pair side queue) pieces) refl)
  stands_next (Post p side queue) e =
      post_cases reading (StandsSo (Post p side queue)) pair side queue (quiet (λ looked. refl) refl)
      (λ label rest is. posts_of (record (lane_of pair side queue) { todo = rest }) label refl)
      (λ entry others label rest idle waits is. posts_of (record (with_next queue (lane_of pair side queue) (entry ∷ others)) { todo = rest }) label refl)
    where
      posts_of : (part : LanePart) (label : Label) → stand part ≡ stand (lane_of pair side queue) → StandsSo (Post p side queue) (record { answer = Posted label; after = posts_through reading (with_lane pair side queue part) side label })
      posts_of part label same = sends (λ looked. refl) side queue part same (same-through (λ (q : PairPart). q.lanes) reading (with_lane pair side queue part) side label (λ _. refl))
  stands_next (Land p side place) e =
      land_cases (StandsSo (Land p side place)) Own pair side place (λ r no. quiet (λ looked. refl) refl)
      (λ label at may. still (λ looked. refl) (stand_landed (other_side own.from) own.queue (taken_out pair side place label) side label))
  stands_next (Look p side queue) e = look_stands p e side queue
  stands_next (Copy p side queue) e = copy_stands p e side queue
  stands_next (Clear p side queue) e = clear_stands p side queue
  stands_next (Ack p side queue) e = ack_stands p side queue
  stands_next (Wake p side queue dev) e = wake_cases (StandsSo (Wake p side queue dev)) reading (dev_plan plan.devs dev) pair side queue (λ r no. quiet (λ looked. refl) refl) (quiet (λ looked. refl) refl)
  stands_next (Spad p side i value) e = quiet (λ looked. refl) (same-posts (λ (q : PairPart). q.lanes) pair side _ (λ _. refl))
  stands_next (Poke p side window offset poked) e = quiet (λ looked. refl) (same-posts_raw (λ (q : PairPart). q.lanes) pair side _ poked (λ _. refl))
  stands_next step e = quiet (λ looked. refl) refl

abbrev KnowsParts : LaneName → List Answered → PairPart → Type 0
KnowsParts own log pair = Knows (looked_in log own.pair own.from own.queue) (stand (lane_to pair own.from own.queue))

parts_run : (plan : Plan) (own : LaneName) → HoldsOfLog plan own.pair AnyStep (KnowsParts own)
parts_run plan own = record {
  fresh = subst (λ (l : LanePart). Knows None (stand l)) (sym (fresh-lane (pair_plan plan own.pair) (other_side own.from) own.queue)) (knows_none None _ refl refl);
  own = λ log bytes pair step any e todos h.
      subst (λ looked. Knows looked (stand (lane_to (left_by plan own.pair bytes pair step) own.from own.queue))) (sym (looked_after-last own.pair own.from own.queue None log (made_by plan own.pair bytes pair step)))
      ((stands_next plan own (reading_of (pair_plan plan own.pair) bytes pair) bytes pair step e).is (looked_in log own.pair own.from own.queue) h);
  other = λ log pair made ne h.
      subst (λ looked. Knows looked (stand (lane_to pair own.from own.queue)))
      (sym (looked_after-last own.pair own.from own.queue None log made ∙ told-elsewhere own (looked_in log own.pair own.from own.queue) made.step made.answer ne)) h;
}

-- The law

copy_fits : (reading : Reading) (pair : PairPart) (side : Side) (queue : ℕ) (looked : Option Looked) (given : ℕ) → Knows looked (stand (lane_to pair side queue))
    → (lane_to pair side queue).done ≡ given → FitsLook looked (lane_to pair side queue).left given (copy_step reading pair side queue).answer
copy_fits reading pair side queue looked given h done_is =
    copy_cases reading (λ o. FitsLook looked to.left given o.answer) pair side queue refused
    (λ turn more. record {
      len = to.len;
      of_found = (h.copying turn).0;
      among = (h.copying turn).1;
      followed = λ last. let less = ltb-true (to.part + 1) (chunks_in to.len) more in absurd (omega arith);
    })
    (λ turn all others. record { len = to.len; of_found = (h.copying turn).0; among = (h.copying turn).1; followed = λ last. ltb-true 0 to.left others })
    (λ turn all whole. record {
      found = record { number = to.got; len = to.len; copies = to.part };
      of_found = (h.copying turn).0;
      all_parts = let below = (h.copying turn).1 in let no_more = ltb-false (to.part + 1) (chunks_in to.len) all in omega arith;
      followed_by_none = let none = ltb-false 0 to.left whole in omega arith;
      its_number = done_is;
    })
  where
    to : LanePart
    to = lane_to pair side queue

    refused : (r : Answer) → Refused false r → FitsLook looked to.left given r
    refused r is_refused = no_fit r is_refused.is
      where
        no_fit : (r : Answer) → refuses r ≡ true → FitsLook looked to.left given r
        no_fit (CopiedPart number part) is = absurd (false≢true is)
        no_fit (Delivered number frame) is = absurd (false≢true is)
        no_fit (ClearedFrame number) is = absurd (false≢true is)
        no_fit r is = tt

clear_fits : (pair : PairPart) (side : Side) (queue : ℕ) (looked : Option Looked) (given : ℕ) → Knows looked (stand (lane_to pair side queue))
    → (is_copied (lane_to pair side queue).phase ≡ true → (lane_to pair side queue).got ≡ (lane_to pair side queue).cleared + 1)
    → FitsLook looked (lane_to pair side queue).left given (clear_step pair side queue).answer
clear_fits pair side queue looked given h last =
    clear_cases (λ o. FitsLook looked to.left given o.answer) pair side queue (λ r no. no_fit r no.is)
    (λ turn. let known = h.copied turn in record { found = known.0; of_found = known.1.0; all_parts = known.1.1.0; its_number = same known.0.number known.1.1.1 (last turn) })
  where
    to : LanePart
    to = lane_to pair side queue

    same : (number : ℕ) → number + 1 ≡ to.got → to.got ≡ to.cleared + 1 → number ≡ to.cleared
    same number one last = omega arith

    no_fit : (r : Answer) → refuses r ≡ true → FitsLook looked to.left given r
    no_fit (CopiedPart number part) is = absurd (false≢true is)
    no_fit (Delivered number frame) is = absurd (false≢true is)
    no_fit (ClearedFrame number) is = absurd (false≢true is)
    no_fit r is = tt

-- An entry is copied part by part in order, its last part answered `frame` if no entry follows, and then cleared.
pub copied_in_parts : CopiedInParts
copied_in_parts plan memories steps pair side queue step answer which goes =
    subst (FitsLook looked (lane_to now side queue).left given) (sym (answer_of plan memories steps step answer goes)) (fits step which)
  where
    own : LaneName
    own = record { pair = pair; from = side; queue = queue }

    looked : Option Looked
    looked = looked_in (log_of plan memories steps) pair side queue

    now : PairPart
    now = ledger_of plan memories steps pair

    given : ℕ
    given = length (delivered plan (log_of plan memories steps) (record { pair = pair; from = other_side side; queue = queue }) now.link.session)

    knows : Knows looked (stand (lane_to now side queue))
    knows = log_after plan pair AnyStep (KnowsParts own) (parts_run plan own) memories steps (all_fit steps)

    fits : (step : Step) → (step ≡ Copy pair side queue) ⊎ (step ≡ Clear pair side queue)
        → FitsLook looked (lane_to now side queue).left given (outcome_in plan (memories (log_of plan memories steps)) (ledger_of plan memories steps) step).answer
    fits step (inl e) =
        subst (λ s. FitsLook looked (lane_to now side queue).left given (outcome_in plan (memories (log_of plan memories steps)) (ledger_of plan memories steps) s).answer) (sym e)
        (copy_fits (reading_of (pair_plan plan pair) (memories (log_of plan memories steps) pair) now) now side queue looked given knows (done_is_delivered plan memories steps pair side queue))
    fits step (inr e) =
        subst (λ s. FitsLook looked (lane_to now side queue).left given (outcome_in plan (memories (log_of plan memories steps)) (ledger_of plan memories steps) s).answer) (sym e) (clear_fits now side queue looked given knows (clears_last plan memories steps pair side queue))
