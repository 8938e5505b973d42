-- What the driver of a queue is told by the log is what the ledger has of its queue, on raw pairs too.
use Rattle.std.proofs.Common.{◌≡◌, ℕ, ◌+◌, ◌-◌, ◌==◌, ◌&&◌, Bool, true, false, not, List, [], ◌∷◌, ◌++◌, length, map, refl, sym, ap, ◌∙◌, subst, arith, inl, inr}
use Rattle.std.specs.Prelude.{if◌then◌else◌, nat_lt, ◌^◌, ◌<◌, bit_and, bit_or, remove, slice_set}
use Rattle.std.proofs.lemmas.Bool.{false≢true, cases_Bool, cases_eq, cond_both, cond-true, cond-false, eq-eqb, ltb-true, ltb-false, ne_eqb}
use Rattle.std.proofs.lemmas.List.{length-append, length-map}
use Rattle.std.proofs.lemmas.List.Sums.{fold-append, sum_by-cons}
use Rattle.std.proofs.lemmas.Nat.Bits.{bit_at-zero, bit_at_ones, bit_at_ones_above, bit_at_or, bit_at-pow_other}
use Rattle.step_kinds.specs.Bits.{all_below, has_bit, with_bit, without_bits}
use Rattle.step_kinds.specs.Sides.{other_side, same_side}
use Rattle.step_kinds.specs.Subject.{subject_of}
use Rattle.step_kinds.specs.declared.names.LaneName.{LaneName}
use Rattle.step_kinds.specs.declared.names.Side.{Side}
use Rattle.step_kinds.specs.declared.names.Side.TheVariants.{A, B}
use Rattle.step_kinds.specs.declared.plan.PairPlan.{PairPlan}
use Rattle.step_kinds.specs.declared.plan.Plan.{Plan}
use Rattle.step_kinds.specs.declared.steps.Answer.{Answer}
use Rattle.step_kinds.specs.declared.steps.Answer.TheVariants.{Ok as Done, OkSession, OkNumber, Joined, Posted, PeerDown, ReadyFrame, Cleared as ClearedFrame, Acked}
use Rattle.step_kinds.specs.declared.steps.Label.{Label}
use Rattle.step_kinds.specs.declared.steps.Label.TheVariants.{Flag, Down, Bell, Index, Pad, Raw}
use Rattle.step_kinds.specs.declared.steps.Step.{Step}
use Rattle.step_kinds.specs.declared.steps.Step.TheVariants.{Enable, Train, Break, DropDone, Clean, Offer, Check, Ready, Join, Begin, QpDown, Xbegin, Post, Land, Look, Copy, Clear, Ack, Wake, Irq, Mask, Unmask, Spad, Poke}
use Rattle.lane_laws.proofs.Facade.{length-count_from}
use Rattle.lane_model.specs.Lane.{Entry, GoesDown, bytes_of, chunks_in, count_from, data_of, writes_of}
use Rattle.lane_model.specs.declared.Field.TheVariants.{Chunk, Length, Version}
use Rattle.lane_model.specs.declared.Write.TheVariants.{Data, Flag as EntryFlag, Bell as QueueBell}
use Rattle.pair_model.specs.Both.{at_side, both_of}
use Rattle.pair_model.specs.Ethernet.{ethernet_frame}
use Rattle.pair_model.specs.Plans.{dev_plan, pair_plan, side_plan}
use Rattle.pair_model.specs.Sizes.{sizes_of}
use Rattle.pair_model.specs.Headers.{Bytes}
use Rattle.ledger_model.specs.Labels.{label_of, labels_of}
use Rattle.ledger_model.specs.Ledger.{LanePart, SidePart, PairPart, side_of, lane_of, lane_to, link_up, posts, posts_raw, with_lane, with_side_part}
use Rattle.ledger_model.specs.Log.{Answered, is_on, log_of, ledger_of, Memories}
use Rattle.ledger_model.specs.Next.{read_next, fresh_pair, agreed_side, idle_side}
use Rattle.ledger_model.specs.Outcome.{Outcome}
use Rattle.ledger_model.specs.Pieces.{pieces_of}
use Rattle.ledger_model.specs.Reading.{Reading, reading_of}
use Rattle.ledger_model.specs.Receiving.{poked_without, lands_on, taken_out, is_idle, is_copying, is_copied}
use Rattle.ledger_model.specs.Sending.{begun_lane, frame_begun, with_next, posts_through}
use Rattle.ledger_laws.specs.Drivers.{Driver, driver_next, driver_start, driver_after, forgets, writes_in}
use Rattle.lane_model.specs.declared.Phase.{Phase}
use Rattle.lane_model.specs.declared.Phase.TheVariants.{Idle, Copying, Copied, Cleared}
use Rattle.ledger_laws.proofs.BitSets.{has-with_same}
use Rattle.ledger_laws.proofs.EachPair.{HoldsOfLog, AnyStep, log_after}
use Rattle.ledger_laws.proofs.LogGrowth.{made_by}
use Rattle.ledger_laws.proofs.walk.Cases.{found_refusals, refuses, enable_cases, train_cases, break_cases, drop_cases, clean_cases, offer_cases, check_cases, ready_cases, join_cases, begin_cases, qpdown_cases, xbegin_cases, post_cases, land_cases, look_cases, copy_cases, clear_cases, ack_cases, acking, wake_cases, trained, cleaned, dropped, offering, next_offer, readied, ready_pad}
use Rattle.ledger_laws.proofs.walk.Logs.{all_fit}
use Rattle.ledger_laws.proofs.walk.Sight.{IsOff, OffCase, OtherQueue, OtherWay, by_lane, lane-own, other_other}
use Rattle.ledger_laws.proofs.walk.Tells.{on-own, on-off}

-- What the ledger has of a queue

abbrev queue_in : ℕ → SidePart → LanePart → LanePart → Driver
queue_in q part sends receives = record {
  ready = has_bit part.ready q;
  joined = has_bit part.joined q;
  closed = has_bit part.closed q;
  left = length sends.todo + writes_in sends.waiting;
  in_hand = not (is_idle receives.phase);
  cleared = receives.cleared;
}

abbrev pub queue_of_ledger : LaneName → PairPart → Driver
queue_of_ledger own pair = queue_in own.queue (side_of pair own.from) (lane_of pair own.from own.queue) (lane_to pair own.from own.queue)

abbrev told_next : Plan → LaneName → Driver → Step → Answer → Driver
told_next plan own now step answer = driver_next plan own now (record { step = step; answer = answer })

-- a step tells the driver what it does to the queue
abbrev TellsSo : Plan → LaneName → PairPart → Step → Outcome → Type 0
TellsSo plan own pair step o = told_next plan own (queue_of_ledger own pair) step o.answer ≡ queue_of_ledger own o.after

-- What an entry of the log of another pair tells, and a refusal

off_pair : (own : LaneName) (p : ℕ) (b : Bool) {X : Type 0} (x y : X) → (p ≡ own.pair → ⊥) → (if (p == own.pair) && b then x else y) ≡ y
off_pair own p b x y ne = rw (ne_eqb p own.pair ne) refl

told-elsewhere : (plan : Plan) (own : LaneName) (now : Driver) (step : Step) (answer : Answer) → (subject_of step ≡ own.pair → ⊥) → told_next plan own now step answer ≡ now
told-elsewhere plan own now (Train p) (OkSession session) ne = rw (ne_eqb p own.pair ne) refl
told-elsewhere plan own now (Clean p side) Done ne = off_pair own p _ _ now ne
told-elsewhere plan own now (Ready p side queue) Done ne = off_pair own p _ _ now ne
told-elsewhere plan own now (Join p side queue) Joined ne = off_pair own p _ _ now ne
told-elsewhere plan own now (Begin p side queue frame) (OkNumber n) ne = off_pair own p _ _ now ne
told-elsewhere plan own now (Xbegin p side queue dev dst kind payload) (OkNumber n) ne = off_pair own p _ _ now ne
told-elsewhere plan own now (QpDown p side queue) (OkNumber n) ne = off_pair own p _ _ now ne
told-elsewhere plan own now (Post p side queue) (Posted label) ne = off_pair own p _ _ now ne
told-elsewhere plan own now (Look p side queue) PeerDown ne = off_pair own p _ _ now ne
told-elsewhere plan own now (Look p side queue) (ReadyFrame n len) ne = off_pair own p _ _ now ne
told-elsewhere plan own now (Clear p side queue) (ClearedFrame n) ne = off_pair own p _ _ now ne
told-elsewhere plan own now (Ack p side queue) (Acked n) ne = off_pair own p _ _ now ne
told-elsewhere plan own now step answer ne = refl

told-refused : (plan : Plan) (own : LaneName) (now : Driver) (step : Step) (r : Answer) → refuses r ≡ true → told_next plan own now step r ≡ now
told-refused plan own now (Train p) (OkSession session) is = absurd (false≢true is)
told-refused plan own now (Clean p side) Done is = absurd (false≢true is)
told-refused plan own now (Ready p side queue) Done is = absurd (false≢true is)
told-refused plan own now (Join p side queue) Joined is = absurd (false≢true is)
told-refused plan own now (Begin p side queue frame) (OkNumber n) is = absurd (false≢true is)
told-refused plan own now (Xbegin p side queue dev dst kind payload) (OkNumber n) is = absurd (false≢true is)
told-refused plan own now (QpDown p side queue) (OkNumber n) is = absurd (false≢true is)
told-refused plan own now (Post p side queue) (Posted label) is = absurd (false≢true is)
told-refused plan own now (Look p side queue) PeerDown is = absurd (false≢true is)
told-refused plan own now (Look p side queue) (ReadyFrame n len) is = absurd (false≢true is)
told-refused plan own now (Clear p side queue) (ClearedFrame n) is = absurd (false≢true is)
told-refused plan own now (Ack p side queue) (Acked n) is = absurd (false≢true is)
told-refused plan own now step r is = refl

look-refused : (plan : Plan) (own : LaneName) (now : Driver) (p : ℕ) (side : Side) (queue : ℕ) (r : Answer) → found_refusals r ≡ true → told_next plan own now (Look p side queue) r ≡ now
look-refused plan own now p side queue PeerDown is = absurd (false≢true is)
look-refused plan own now p side queue (ReadyFrame n len) is = absurd (false≢true is)
look-refused plan own now p side queue r is = refl

-- Sets of queues

empty-set : (k : ℕ) → has_bit 0 k ≡ false
empty-set k = ap (λ b. b == 1) (bit_at-zero k)

has-with_other : (bits j k : ℕ) → (j ≡ k → ⊥) → has_bit (with_bit bits k) j ≡ has_bit bits j
has-with_other bits j k ne =
    ap (λ b. b == 1)
    (let e = bit_at_or bits (2 ^ k) j in
    let none = bit_at-pow_other k j ne in
    omega arith)

-- Phases

copying-in_hand : (phase : Phase) → is_copying phase ≡ true → not (is_idle phase) ≡ true
copying-in_hand Idle e = absurd (false≢true e)
copying-in_hand Copying e = refl
copying-in_hand Copied e = refl
copying-in_hand Cleared e = refl

copied-in_hand : (phase : Phase) → is_copied phase ≡ true → not (is_idle phase) ≡ true
copied-in_hand Idle e = absurd (false≢true e)
copied-in_hand Copying e = refl
copied-in_hand Copied e = refl
copied-in_hand Cleared e = refl

-- Writes

count-mapped : {X : Type 0} (f : ℕ → X) (from many : ℕ) → length (map f (count_from from many)) ≡ many
count-mapped f from many = length-map (count_from from many) f ∙ length-count_from from many

writes_many : (n : ℕ) (entry : Entry) → length (writes_of n entry) ≡ chunks_in (length (bytes_of entry)) + 4
writes_many n entry =
    let a = length-append (data_of n entry) (EntryFlag n ∷ QueueBell ∷ []) in
    let b = length-append (map (λ part. Data n (Chunk part)) (count_from 0 (chunks_in (length (bytes_of entry))))) (Data n Length ∷ Data n Version ∷ []) in
    let c = count-mapped (λ part. Data n (Chunk part)) 0 (chunks_in (length (bytes_of entry))) in
    omega arith

writes-number : (n : ℕ) (entry : Entry) → length (writes_of n entry) ≡ length (writes_of 0 entry)
writes-number n entry = writes_many n entry ∙ sym (writes_many 0 entry)

-- Each entry has at least one write.
pub writes-some : (entry : Entry) → 0 < length (writes_of 0 entry)
writes-some entry = let is = writes_many 0 entry in omega arith

writes-alike : (n : ℕ) (entry : Entry) (q : ℕ) → length (labels_of q n entry) ≡ length (writes_of 0 entry)
writes-alike n entry q = length-map (writes_of n entry) (label_of q entry) ∙ writes-number n entry

-- A list of entries has as many writes as its first entry and the others have together.
pub writes-more : (entry : Entry) (others : List Entry) → writes_in (entry ∷ others) ≡ length (writes_of 0 entry) + writes_in others
writes-more entry others = sum_by-cons (λ (e : Entry). length (writes_of 0 e)) entry others

-- the writes of a frame's pieces, the first of which is begun
writes-begun : (q : ℕ) (lane : LanePart) (pieces : List Entry) → lane.todo ≡ [] → lane.waiting ≡ []
    → length (begun_lane q lane pieces).todo + writes_in (begun_lane q lane pieces).waiting ≡ writes_in pieces
writes-begun q lane [] empty none = rw (empty, none) refl
writes-begun q lane (first ∷ others) empty none = ap (λ n. n + writes_in others) (writes-alike (length lane.sent) first q) ∙ sym (writes-more first others)

-- The queue, after a change of a side and after one of a lane

module _ (own : LaneName) (pair : PairPart) where
  abbrev Queue : PairPart → Driver
  Queue p = queue_of_ledger own p

  -- what a side's part says of this queue
  record PartSays (old new : SidePart) : Type 0 where
    ready : has_bit new.ready own.queue ≡ has_bit old.ready own.queue
    joined : has_bit new.joined own.queue ≡ has_bit old.joined own.queue
    closed : has_bit new.closed own.queue ≡ has_bit old.closed own.queue

  same_part : (old new : SidePart) → PartSays old new → (sends receives : LanePart) → queue_in own.queue new sends receives ≡ queue_in own.queue old sends receives
  same_part old new says sends receives = rw (says.ready, says.joined, says.closed) refl

  side_kept : (side : Side) (part : SidePart) → PartSays (side_of pair side) part → Queue (with_side_part pair side part) ≡ Queue pair
  side_kept side part says = go own.from side part says
    where
      go : (from side : Side) (part : SidePart) → PartSays (side_of pair side) part
          → queue_in own.queue (side_of (with_side_part pair side part) from) (lane_of pair from own.queue) (lane_to pair from own.queue)
          ≡ queue_in own.queue (side_of pair from) (lane_of pair from own.queue) (lane_to pair from own.queue)
      go A A part says = same_part pair.sides.a part says (lane_of pair A own.queue) (lane_to pair A own.queue)
      go B B part says = same_part pair.sides.b part says (lane_of pair B own.queue) (lane_to pair B own.queue)
      go A B part says = refl
      go B A part says = refl

  -- what a lane says to its sender and to its receiver
  record LaneSays (old new : LanePart) : Type 0 where
    left : length new.todo + writes_in new.waiting ≡ length old.todo + writes_in old.waiting
    in_hand : is_idle new.phase ≡ is_idle old.phase
    cleared : new.cleared ≡ old.cleared

  same_sent : (part : SidePart) (old new receives : LanePart) → LaneSays old new → queue_in own.queue part new receives ≡ queue_in own.queue part old receives
  same_sent part old new receives says = rw (says.left) refl

  same_received : (part : SidePart) (sends old new : LanePart) → LaneSays old new → queue_in own.queue part sends new ≡ queue_in own.queue part sends old
  same_received part sends old new says = rw (says.in_hand, says.cleared) refl

  -- the queue with another lane of its own side, and of its peer
  sends_now : (part : LanePart) → Queue (with_lane pair own.from own.queue part) ≡ queue_in own.queue (side_of pair own.from) part (lane_to pair own.from own.queue)
  sends_now part = go own.from refl
    where
      go : (from : Side) → own.from ≡ from
          → queue_in own.queue (side_of (with_lane pair from own.queue part) from) (lane_of (with_lane pair from own.queue part) from own.queue) (lane_to (with_lane pair from own.queue part) from own.queue)
          ≡ queue_in own.queue (side_of pair from) part (lane_to pair from own.queue)
      go A e = ap (λ (l : LanePart). queue_in own.queue pair.sides.a l (lane_to pair A own.queue)) (lane-own A own.queue pair part)
      go B e = ap (λ (l : LanePart). queue_in own.queue pair.sides.b l (lane_to pair B own.queue)) (lane-own B own.queue pair part)

  receives_now : (part : LanePart) → Queue (with_lane pair (other_side own.from) own.queue part) ≡ queue_in own.queue (side_of pair own.from) (lane_of pair own.from own.queue) part
  receives_now part = go own.from
    where
      go : (from : Side)
          → queue_in own.queue (side_of (with_lane pair (other_side from) own.queue part) from) (lane_of (with_lane pair (other_side from) own.queue part) from own.queue)
          (lane_to (with_lane pair (other_side from) own.queue part) from own.queue)
          ≡ queue_in own.queue (side_of pair from) (lane_of pair from own.queue) part
      go A = ap (λ (l : LanePart). queue_in own.queue pair.sides.a (lane_of pair A own.queue) l) (lane-own B own.queue pair part)
      go B = ap (λ (l : LanePart). queue_in own.queue pair.sides.b (lane_of pair B own.queue) l) (lane-own A own.queue pair part)

  -- a lane of another queue
  lane_aside : (side : Side) (queue : ℕ) (part : LanePart) → (own.queue ≡ queue → ⊥) → Queue (with_lane pair side queue part) ≡ Queue pair
  lane_aside side queue part ne = go own.from side
    where
      other : (own.queue == queue) ≡ false
      other = ne_eqb own.queue queue ne

      go : (from side : Side)
          → queue_in own.queue (side_of (with_lane pair side queue part) from) (lane_of (with_lane pair side queue part) from own.queue) (lane_to (with_lane pair side queue part) from own.queue)
          ≡ queue_in own.queue (side_of pair from) (lane_of pair from own.queue) (lane_to pair from own.queue)
      go A A = rw other refl
      go A B = rw other refl
      go B A = rw other refl
      go B B = rw other refl

  lane_kept : (side : Side) (queue : ℕ) (part : LanePart) → LaneSays (lane_of pair side queue) part → Queue (with_lane pair side queue part) ≡ Queue pair
  lane_kept side queue part says = elim (cases_eq own.queue queue) [
    | inl e ↦ go own.from side (subst (λ k. LaneSays (lane_of pair side k) part) (sym e) says) e
    | inr ne ↦ lane_aside side queue part ne
  ]
    where
      go : (from side : Side) → LaneSays (lane_of pair side own.queue) part → own.queue ≡ queue
          → queue_in own.queue (side_of (with_lane pair side queue part) from) (lane_of (with_lane pair side queue part) from own.queue) (lane_to (with_lane pair side queue part) from own.queue)
          ≡ queue_in own.queue (side_of pair from) (lane_of pair from own.queue) (lane_to pair from own.queue)
      go A A says e = rw (eq-eqb own.queue queue e) (same_sent pair.sides.a (lane_of pair A own.queue) part (lane_to pair A own.queue) says)
      go B B says e = rw (eq-eqb own.queue queue e) (same_sent pair.sides.b (lane_of pair B own.queue) part (lane_to pair B own.queue) says)
      go A B says e = rw (eq-eqb own.queue queue e) (same_received pair.sides.a (lane_of pair A own.queue) (lane_of pair B own.queue) part says)
      go B A says e = rw (eq-eqb own.queue queue e) (same_received pair.sides.b (lane_of pair B own.queue) (lane_of pair A own.queue) part says)

  -- the lane of a sender on another queue or of the peer, with nothing new of what its receiver has
  sent_off : (side : Side) (queue : ℕ) → OffCase own.from own.queue side queue → (part : LanePart) → is_idle part.phase ≡ is_idle (lane_of pair side queue).phase → part.cleared ≡ (lane_of pair side queue).cleared
      → Queue (with_lane pair side queue part) ≡ Queue pair
  sent_off side queue (OtherQueue ne) part phase acked = lane_aside own.from queue part ne
  sent_off side queue OtherWay part phase acked = elim (cases_eq own.queue queue) [
    | inl e ↦ subst (λ k. is_idle part.phase ≡ is_idle (lane_of pair (other_side own.from) k).phase → part.cleared ≡ (lane_of pair (other_side own.from) k).cleared
        → Queue (with_lane pair (other_side own.from) k part) ≡ Queue pair) e
        (λ p a. receives_now part ∙ rw (p, a) refl) phase acked
    | inr ne ↦ lane_aside (other_side own.from) queue part ne
  ]

  -- the lane of a receiver on another queue or of the peer, with nothing new of what its sender has left to post
  received_off : (side : Side) (queue : ℕ) → OffCase own.from own.queue side queue → (part : LanePart)
      → length part.todo + writes_in part.waiting ≡ length (lane_to pair side queue).todo + writes_in (lane_to pair side queue).waiting
      → Queue (with_lane pair (other_side side) queue part) ≡ Queue pair
  received_off side queue (OtherQueue ne) part left = lane_aside (other_side own.from) queue part ne
  received_off side queue OtherWay part left = elim (cases_eq own.queue queue) [
    | inl e ↦ subst (λ k. length part.todo + writes_in part.waiting ≡ length (lane_to pair (other_side own.from) k).todo + writes_in (lane_to pair (other_side own.from) k).waiting
        → Queue (with_lane pair (other_side (other_side own.from)) k part) ≡ Queue pair) e back left
    | inr ne ↦ lane_aside (other_side (other_side own.from)) queue part ne
  ]
    where
      back : length part.todo + writes_in part.waiting ≡ length (lane_to pair (other_side own.from) own.queue).todo + writes_in (lane_to pair (other_side own.from) own.queue).waiting
          → Queue (with_lane pair (other_side (other_side own.from)) own.queue part) ≡ Queue pair
      back = subst (λ from. length part.todo + writes_in part.waiting ≡ length (lane_of pair from own.queue).todo + writes_in (lane_of pair from own.queue).waiting
          → Queue (with_lane pair from own.queue part) ≡ Queue pair) (sym (other_other own.from)) (λ is. sends_now part ∙ rw is refl)

-- Each step

module _ (plan : Plan) (own : LaneName) (reading : Reading) (bytes : Bytes) (pair : PairPart) where
  abbrev Own : PairPlan
  Own = pair_plan plan own.pair

  abbrev Now : Driver
  Now = queue_of_ledger own pair

  abbrev Tells : Step → Outcome → Type 0
  Tells step o = TellsSo plan own pair step o

  -- a write that a side posts
  posted_kept : (now : PairPart) (side : Side) (label : Label) → queue_of_ledger own (posts now side label) ≡ queue_of_ledger own now
  posted_kept now side label =
      cond_both (link_up now) _ now (λ (p : PairPart). queue_of_ledger own p ≡ queue_of_ledger own now)
      (λ _. side_kept own now side (record (side_of now side) { flight = (side_of now side).flight ++ label ∷ [] }) (record { ready = refl; joined = refl; closed = refl })) (λ _. refl)

  raw_kept : (side : Side) (label : Label) (poked : List ℕ) → queue_of_ledger own (posts_raw pair side label poked) ≡ Now
  raw_kept side label poked =
      cond_both (link_up pair) _ pair (λ (p : PairPart). queue_of_ledger own p ≡ Now)
      (λ _. side_kept own pair side (record (side_of pair side) { flight = (side_of pair side).flight ++ label ∷ []; poked = (side_of pair side).poked ++ poked ∷ [] })
      (record { ready = refl; joined = refl; closed = refl })) (λ _. refl)

  through_kept : (now : PairPart) (side : Side) (label : Label) → queue_of_ledger own (posts_through reading now side label) ≡ queue_of_ledger own now
  through_kept now side label = cond_both (reading.reaches side label) (posts now side label) now (λ (p : PairPart). queue_of_ledger own p ≡ queue_of_ledger own now) (λ _. posted_kept now side label) (λ _. refl)

  -- what isn't this side's queue: another queue, or the other side
  is_aside : (p : ℕ) (side : Side) (queue : ℕ) → IsOff own.from own.queue side queue → (new : Driver) → (if is_on own p side queue then new else Now) ≡ Now
  is_aside p side queue off new = cond-false (is_on own p side queue) new Now (on-off own p side queue off)

  is_own : (p : ℕ) → p ≡ own.pair → (new : Driver) → (if is_on own p own.from own.queue then new else Now) ≡ new
  is_own p on new = cond-true (is_on own p own.from own.queue) new Now (on-own own p on)

  train_tells : (p : ℕ) → p ≡ own.pair → Tells (Train p) (record { answer = OkSession (pair.link.session + 1); after = trained pair })
  train_tells p on = rw (eq-eqb p own.pair on) (go own.from)
    where
      go : (from : Side)
          → record (queue_in own.queue (side_of pair from) (lane_of pair from own.queue) (lane_to pair from own.queue)) { left = 0; in_hand = false; cleared = 0 }
          ≡ queue_in own.queue (side_of (trained pair) from) (lane_of (trained pair) from own.queue) (lane_to (trained pair) from own.queue)
      go A = refl
      go B = refl

  clean_tells : (p : ℕ) → p ≡ own.pair → (side : Side) → Tells (Clean p side) (record { answer = Done; after = cleaned pair side })
  clean_tells p on side = rw (eq-eqb p own.pair on) (go own.from side)
    where
      go : (from side : Side)
          → (if same_side side from then forgets (queue_in own.queue (side_of pair from) (lane_of pair from own.queue) (lane_to pair from own.queue))
          else queue_in own.queue (side_of pair from) (lane_of pair from own.queue) (lane_to pair from own.queue))
          ≡ queue_in own.queue (side_of (cleaned pair side) from) (lane_of (cleaned pair side) from own.queue) (lane_to (cleaned pair side) from own.queue)
      go A A = rw (empty-set own.queue) refl
      go B B = rw (empty-set own.queue) refl
      go A B = refl
      go B A = refl

  -- a step that tells nothing and leaves the queue as it is
  quiet : (step : Step) (o : Outcome) → told_next plan own Now step o.answer ≡ Now → queue_of_ledger own o.after ≡ Now → Tells step o
  quiet step o tells same = tells ∙ sym same

  refused : (step : Step) (r : Answer) → refuses r ≡ true → Tells step (record { answer = r; after = pair })
  refused step r is = quiet step (record { answer = r; after = pair }) (told-refused plan own Now step r is) refl

  -- the writes of an entry that is begun on this queue
  begun_now : (pieces : List Entry) → (lane_of pair own.from own.queue).todo ≡ [] → (lane_of pair own.from own.queue).waiting ≡ [] → (part : LanePart)
      → length part.todo + writes_in part.waiting ≡ length (begun_lane own.queue (lane_of pair own.from own.queue) pieces).todo + writes_in (begun_lane own.queue (lane_of pair own.from own.queue) pieces).waiting
      → record Now { left = writes_in pieces } ≡ queue_of_ledger own (with_lane pair own.from own.queue part)
  begun_now pieces empty none part is =
      sym (sends_now own pair part
      ∙ ap (λ n. record Now { left = n }) (is ∙ writes-begun own.queue (lane_of pair own.from own.queue) pieces empty none))

  frame_left : (q : ℕ) (lane : LanePart) (pieces : List Entry)
      → length (frame_begun q lane pieces).todo + writes_in (frame_begun q lane pieces).waiting ≡ length (begun_lane q lane pieces).todo + writes_in (begun_lane q lane pieces).waiting
  frame_left q lane [] = refl
  frame_left q lane (first ∷ others) = refl

  begun_to : (lane : LanePart) (pieces : List Entry) (q : ℕ) → ((frame_begun q lane pieces).phase ≡ lane.phase) × ((frame_begun q lane pieces).cleared ≡ lane.cleared)
  begun_to lane [] q = (refl, refl)
  begun_to lane (first ∷ others) q = (refl, refl)

  abbrev Pieces : Side → ℕ → List ℕ → List Entry
  Pieces side queue frame = pieces_of (sizes_of Own side queue).largest frame

  frame_tells : (frame : List ℕ) → (lane_of pair own.from own.queue).todo ≡ [] → (lane_of pair own.from own.queue).waiting ≡ []
      → record Now { left = writes_in (Pieces own.from own.queue frame) } ≡ queue_of_ledger own (with_lane pair own.from own.queue (frame_begun own.queue (lane_of pair own.from own.queue) (Pieces own.from own.queue frame)))
  frame_tells frame empty none =
      begun_now (Pieces own.from own.queue frame) empty none (frame_begun own.queue (lane_of pair own.from own.queue) (Pieces own.from own.queue frame))
      (frame_left own.queue (lane_of pair own.from own.queue) (Pieces own.from own.queue frame))

  frame_aside : (side : Side) (queue : ℕ) (frame : List ℕ) → OffCase own.from own.queue side queue
      → queue_of_ledger own (with_lane pair side queue (frame_begun queue (lane_of pair side queue) (Pieces side queue frame))) ≡ Now
  frame_aside side queue frame c =
      let to = begun_to (lane_of pair side queue) (Pieces side queue frame) queue in
      sent_off own pair side queue c (frame_begun queue (lane_of pair side queue) (Pieces side queue frame)) (ap is_idle to.0) to.1

  begin_tells : (p : ℕ) → p ≡ own.pair → (side : Side) (queue : ℕ) (frame : List ℕ) → Tells (Begin p side queue frame) (read_next plan.devs Own reading bytes pair (Begin p side queue frame))
  begin_tells p on side queue frame =
      by_lane own.from own.queue (λ side queue. Tells (Begin p side queue frame) (read_next plan.devs Own reading bytes pair (Begin p side queue frame)))
      (begin_cases reading (Tells (Begin p own.from own.queue frame)) (sizes_of Own own.from own.queue) pair own.from own.queue frame (λ r no. refused (Begin p own.from own.queue frame) r no.is)
      (λ may. is_own p on (record Now { left = writes_in (Pieces own.from own.queue frame) }) ∙ frame_tells frame may.not_busy may.none_waiting))
      (λ side queue c off.
      begin_cases reading (Tells (Begin p side queue frame)) (sizes_of Own side queue) pair side queue frame (λ r no. refused (Begin p side queue frame) r no.is)
      (λ may. is_aside p side queue off (record Now { left = writes_in (Pieces own.from own.queue frame) }) ∙ sym (frame_aside side queue frame c))) side queue

  xbegin_tells : (p : ℕ) → p ≡ own.pair → (side : Side) (queue dev : ℕ) (dst : List ℕ) (kind : ℕ) (payload : List ℕ)
      → Tells (Xbegin p side queue dev dst kind payload) (read_next plan.devs Own reading bytes pair (Xbegin p side queue dev dst kind payload))
  xbegin_tells p on side queue dev dst kind payload =
      by_lane own.from own.queue (λ side queue. Tells (Xbegin p side queue dev dst kind payload) (read_next plan.devs Own reading bytes pair (Xbegin p side queue dev dst kind payload)))
      (xbegin_cases reading (Tells (Xbegin p own.from own.queue dev dst kind payload)) (sizes_of Own own.from own.queue) (dev_plan plan.devs dev) pair own.from own.queue dst kind payload
      (λ r no. told-refused plan own Now (Xbegin p own.from own.queue dev dst kind payload) r no.is)
      (λ may. is_own p on (record Now { left = writes_in (Pieces own.from own.queue frame) }) ∙ frame_tells frame may.not_busy may.none_waiting))
      (λ side queue c off.
      xbegin_cases reading (Tells (Xbegin p side queue dev dst kind payload)) (sizes_of Own side queue) (dev_plan plan.devs dev) pair side queue dst kind payload
      (λ r no. told-refused plan own Now (Xbegin p side queue dev dst kind payload) r no.is)
      (λ may. is_aside p side queue off (record Now { left = writes_in (Pieces own.from own.queue frame) }) ∙ sym (frame_aside side queue frame c))) side queue
    where
      frame : List ℕ
      frame = ethernet_frame dst (dev_plan plan.devs dev).address kind payload

  -- a queue's bit in a set
  abbrev Shut : ℕ → SidePart → SidePart
  Shut queue part = record part { closed = with_bit part.closed queue }

  -- the bit of another queue, or of the peer's
  shut_aside : (now : PairPart) (side : Side) (queue : ℕ) → OffCase own.from own.queue side queue → (part : SidePart)
      → ((own.queue ≡ queue → ⊥) → PartSays own now (side_of now side) part) → queue_of_ledger own (with_side_part now side part) ≡ queue_of_ledger own now
  shut_aside now side queue (OtherQueue ne) part says = side_kept own now own.from part (says ne)
  shut_aside now side queue OtherWay part says = go own.from
    where
      go : (from : Side)
          → queue_in own.queue (side_of (with_side_part now (other_side from) part) from) (lane_of now from own.queue) (lane_to now from own.queue)
          ≡ queue_in own.queue (side_of now from) (lane_of now from own.queue) (lane_to now from own.queue)
      go A = refl
      go B = refl

  -- this queue's own side
  own_side : (now : PairPart) (part : SidePart) → queue_of_ledger own (with_side_part now own.from part) ≡ queue_in own.queue part (lane_of now own.from own.queue) (lane_to now own.from own.queue)
  own_side now part = go own.from
    where
      go : (from : Side)
          → queue_in own.queue (side_of (with_side_part now from part) from) (lane_of now from own.queue) (lane_to now from own.queue)
          ≡ queue_in own.queue part (lane_of now from own.queue) (lane_to now from own.queue)
      go A = refl
      go B = refl

  own_shut : (now : PairPart) → queue_of_ledger own (with_side_part now own.from (Shut own.queue (side_of now own.from))) ≡ record (queue_of_ledger own now) { closed = true }
  own_shut now = own_side now (Shut own.queue (side_of now own.from)) ∙ ap (λ b. record (queue_of_ledger own now) { closed = b }) (has-with_same (side_of now own.from).closed own.queue)

  aside_shut : (now : PairPart) (side : Side) (queue : ℕ) → OffCase own.from own.queue side queue → queue_of_ledger own (with_side_part now side (Shut queue (side_of now side))) ≡ queue_of_ledger own now
  aside_shut now side queue c =
      shut_aside now side queue c (Shut queue (side_of now side))
      (λ ne. record { ready = refl; joined = refl; closed = has-with_other (side_of now side).closed own.queue queue ne })

  qpdown_tells : (p : ℕ) → p ≡ own.pair → (side : Side) (queue : ℕ) → Tells (QpDown p side queue) (read_next plan.devs Own reading bytes pair (QpDown p side queue))
  qpdown_tells p on side queue =
      by_lane own.from own.queue (λ side queue. Tells (QpDown p side queue) (read_next plan.devs Own reading bytes pair (QpDown p side queue)))
      (qpdown_cases reading (Tells (QpDown p own.from own.queue)) (sizes_of Own own.from own.queue) pair own.from own.queue (λ r no. refused (QpDown p own.from own.queue) r no.is)
      (λ may.
      let down = begun_lane own.queue (lane_of pair own.from own.queue) (GoesDown ∷ []) in
      is_own p on (record Now { left = writes_in (GoesDown ∷ []); closed = true })
      ∙ ap (λ (d : Driver). record d { closed = true }) (begun_now (GoesDown ∷ []) may.not_busy may.none_waiting down refl)
      ∙ sym (own_shut (with_lane pair own.from own.queue down))))
      (λ side queue c off.
      qpdown_cases reading (Tells (QpDown p side queue)) (sizes_of Own side queue) pair side queue (λ r no. refused (QpDown p side queue) r no.is)
      (λ may.
      let down = begun_lane queue (lane_of pair side queue) (GoesDown ∷ []) in
      is_aside p side queue off (record Now { left = writes_in (GoesDown ∷ []); closed = true })
      ∙ sym (aside_shut (with_lane pair side queue down) side queue c ∙ sent_off own pair side queue c down refl refl))) side queue

  ready_tells : (p : ℕ) → p ≡ own.pair → (side : Side) (queue : ℕ) → Tells (Ready p side queue) (read_next plan.devs Own reading bytes pair (Ready p side queue))
  ready_tells p on side queue =
      by_lane own.from own.queue (λ side queue. Tells (Ready p side queue) (read_next plan.devs Own reading bytes pair (Ready p side queue)))
      (ready_cases (Tells (Ready p own.from own.queue)) pair own.from own.queue (λ r no. refused (Ready p own.from own.queue) r no.is)
      (λ up checked. is_own p on (record Now { ready = true })
      ∙ sym (posted_kept (readied pair own.from own.queue) own.from (ready_pad pair own.from own.queue)
      ∙ own_side pair (record (side_of pair own.from) { ready = with_bit (side_of pair own.from).ready own.queue })
      ∙ ap (λ b. record Now { ready = b }) (has-with_same (side_of pair own.from).ready own.queue))))
      (λ side queue c off.
      ready_cases (Tells (Ready p side queue)) pair side queue (λ r no. refused (Ready p side queue) r no.is)
      (λ up checked. is_aside p side queue off (record Now { ready = true })
      ∙ sym (posted_kept (readied pair side queue) side (ready_pad pair side queue)
      ∙ shut_aside pair side queue c (record (side_of pair side) { ready = with_bit (side_of pair side).ready queue })
      (λ ne. record { ready = has-with_other (side_of pair side).ready own.queue queue ne; joined = refl; closed = refl })))) side queue

  join_tells : (p : ℕ) → p ≡ own.pair → (side : Side) (queue : ℕ) → Tells (Join p side queue) (read_next plan.devs Own reading bytes pair (Join p side queue))
  join_tells p on side queue =
      by_lane own.from own.queue (λ side queue. Tells (Join p side queue) (read_next plan.devs Own reading bytes pair (Join p side queue)))
      (join_cases (Tells (Join p own.from own.queue)) pair own.from own.queue (λ r no. refused (Join p own.from own.queue) r no.is)
      (λ up ready asked. is_own p on (record Now { joined = true })
      ∙ sym (own_side pair (record (side_of pair own.from) { joined = with_bit (side_of pair own.from).joined own.queue })
      ∙ ap (λ b. record Now { joined = b }) (has-with_same (side_of pair own.from).joined own.queue))))
      (λ side queue c off.
      join_cases (Tells (Join p side queue)) pair side queue (λ r no. refused (Join p side queue) r no.is)
      (λ up ready asked. is_aside p side queue off (record Now { joined = true })
      ∙ sym (shut_aside pair side queue c (record (side_of pair side) { joined = with_bit (side_of pair side).joined queue })
      (λ ne. record { ready = refl; joined = has-with_other (side_of pair side).joined own.queue queue ne; closed = refl })))) side queue

  -- one write less is left to post
  post_own : (p : ℕ) → p ≡ own.pair → (label : Label) (part : LanePart) → length part.todo + writes_in part.waiting ≡ Now.left - 1
      → Tells (Post p own.from own.queue) (record { answer = Posted label; after = posts_through reading (with_lane pair own.from own.queue part) own.from label })
  post_own p on label part is =
      is_own p on (record Now { left = Now.left - 1 })
      ∙ sym (through_kept (with_lane pair own.from own.queue part) own.from label ∙ sends_now own pair part ∙ ap (λ n. record Now { left = n }) is)

  post_off : (p : ℕ) (side : Side) (queue : ℕ) → OffCase own.from own.queue side queue → IsOff own.from own.queue side queue → (label : Label) (part : LanePart)
      → is_idle part.phase ≡ is_idle (lane_of pair side queue).phase → part.cleared ≡ (lane_of pair side queue).cleared
      → Tells (Post p side queue) (record { answer = Posted label; after = posts_through reading (with_lane pair side queue part) side label })
  post_off p side queue c off label part phase acked =
      is_aside p side queue off (record Now { left = Now.left - 1 })
      ∙ sym (through_kept (with_lane pair side queue part) side label ∙ sent_off own pair side queue c part phase acked)

  post_tells : (p : ℕ) → p ≡ own.pair → (side : Side) (queue : ℕ) → Tells (Post p side queue) (read_next plan.devs Own reading bytes pair (Post p side queue))
  post_tells p on side queue =
      by_lane own.from own.queue (λ side queue. Tells (Post p side queue) (read_next plan.devs Own reading bytes pair (Post p side queue)))
      (let lane = lane_of pair own.from own.queue in
      post_cases reading (Tells (Post p own.from own.queue)) pair own.from own.queue refl
      (λ label rest is. post_own p on label (record lane { todo = rest })
      (let a : length lane.todo ≡ length rest + 1 = ap length is ∙ omega arith in omega arith))
      (λ entry others label rest empty waits is. post_own p on label (record (with_next own.queue lane (entry ∷ others)) { todo = rest })
      (let a : length lane.todo ≡ 0 = ap length empty in
      let b : writes_in lane.waiting ≡ length (writes_of 0 entry) + writes_in others = ap writes_in waits ∙ writes-more entry others in
      let d : length (writes_of 0 entry) ≡ length rest + 1 = sym (writes-alike (length lane.sent) entry own.queue) ∙ ap length is ∙ omega arith in
      omega arith)))
      (λ side queue c off.
      post_cases reading (Tells (Post p side queue)) pair side queue refl
      (λ label rest is. post_off p side queue c off label (record (lane_of pair side queue) { todo = rest }) refl refl)
      (λ entry others label rest empty waits is. post_off p side queue c off label (record (with_next queue (lane_of pair side queue) (entry ∷ others)) { todo = rest }) refl refl)) side queue

  look_tells : (p : ℕ) → p ≡ own.pair → (side : Side) (queue : ℕ) → Tells (Look p side queue) (read_next plan.devs Own reading bytes pair (Look p side queue))
  look_tells p on side queue =
      by_lane own.from own.queue (λ side queue. Tells (Look p side queue) (read_next plan.devs Own reading bytes pair (Look p side queue)))
      (look_cases reading (Tells (Look p own.from own.queue)) pair own.from own.queue (λ r no found. look-refused plan own Now p own.from own.queue r found)
      (λ may none. refl)
      (λ may len left found. is_own p on (record Now { in_hand = true })
      ∙ sym (receives_now own pair (record (lane_to pair own.from own.queue) { phase = Copying; part = 0; len = len; left = left })))
      (λ may. is_own p on (record Now { closed = true }) ∙ sym (own_shut pair)))
      (λ side queue c off.
      look_cases reading (Tells (Look p side queue)) pair side queue (λ r no found. look-refused plan own Now p side queue r found)
      (λ may none. refl)
      (λ may len left found. is_aside p side queue off (record Now { in_hand = true })
      ∙ sym (received_off own pair side queue c (record (lane_to pair side queue) { phase = Copying; part = 0; len = len; left = left }) refl))
      (λ may. is_aside p side queue off (record Now { closed = true }) ∙ sym (aside_shut pair side queue c))) side queue

  -- an entry stays in hand
  held : (b : Bool) → Now.in_hand ≡ true → Now ≡ record Now { in_hand = true }
  held b is = ap (λ b. record Now { in_hand = b }) is

  copy_tells : (p : ℕ) (side : Side) (queue : ℕ) → Tells (Copy p side queue) (read_next plan.devs Own reading bytes pair (Copy p side queue))
  copy_tells p side queue =
      by_lane own.from own.queue (λ side queue. Tells (Copy p side queue) (read_next plan.devs Own reading bytes pair (Copy p side queue)))
      (let lane = lane_to pair own.from own.queue in
      let gathered = lane.gathered ++ reading.part own.from own.queue in
      copy_cases reading (Tells (Copy p own.from own.queue)) pair own.from own.queue (λ r no. refused (Copy p own.from own.queue) r no.is)
      (λ turn more. sym (receives_now own pair (record lane { part = lane.part + 1; gathered = gathered })))
      (λ turn all others. held true (copying-in_hand lane.phase turn) ∙ sym (receives_now own pair (record lane { got = lane.got + 1; phase = Copied; gathered = gathered })))
      (λ turn all whole. held true (copying-in_hand lane.phase turn) ∙ sym (receives_now own pair (record lane { got = lane.got + 1; phase = Copied; gathered = []; done = lane.done + 1 }))))
      (λ side queue c off.
      let lane = lane_to pair side queue in
      let gathered = lane.gathered ++ reading.part side queue in
      copy_cases reading (Tells (Copy p side queue)) pair side queue (λ r no. refused (Copy p side queue) r no.is)
      (λ turn more. sym (received_off own pair side queue c (record lane { part = lane.part + 1; gathered = gathered }) refl))
      (λ turn all others. sym (received_off own pair side queue c (record lane { got = lane.got + 1; phase = Copied; gathered = gathered }) refl))
      (λ turn all whole. sym (received_off own pair side queue c (record lane { got = lane.got + 1; phase = Copied; gathered = []; done = lane.done + 1 }) refl))) side queue

  clear_tells : (p : ℕ) → p ≡ own.pair → (side : Side) (queue : ℕ) → Tells (Clear p side queue) (read_next plan.devs Own reading bytes pair (Clear p side queue))
  clear_tells p on side queue =
      by_lane own.from own.queue (λ side queue. Tells (Clear p side queue) (read_next plan.devs Own reading bytes pair (Clear p side queue)))
      (let lane = lane_to pair own.from own.queue in
      clear_cases (Tells (Clear p own.from own.queue)) pair own.from own.queue (λ r no. refused (Clear p own.from own.queue) r no.is)
      (λ turn. is_own p on (record Now { cleared = Now.cleared + 1 })
      ∙ ap (λ b. record Now { in_hand = b; cleared = Now.cleared + 1 }) (copied-in_hand lane.phase turn) ∙ sym (receives_now own pair (record lane { cleared = lane.cleared + 1; phase = Cleared }))))
      (λ side queue c off.
      clear_cases (Tells (Clear p side queue)) pair side queue (λ r no. refused (Clear p side queue) r no.is)
      (λ turn. is_aside p side queue off (record Now { cleared = Now.cleared + 1 })
      ∙ sym (received_off own pair side queue c (record (lane_to pair side queue) { cleared = (lane_to pair side queue).cleared + 1; phase = Cleared }) refl))) side queue

  ack_tells : (p : ℕ) → p ≡ own.pair → (side : Side) (queue : ℕ) → Tells (Ack p side queue) (read_next plan.devs Own reading bytes pair (Ack p side queue))
  ack_tells p on side queue =
      by_lane own.from own.queue (λ side queue. Tells (Ack p side queue) (read_next plan.devs Own reading bytes pair (Ack p side queue)))
      (let lane = lane_to pair own.from own.queue in
      ack_cases reading (Tells (Ack p own.from own.queue)) pair own.from own.queue (λ r no. refused (Ack p own.from own.queue) r no.is)
      (λ turn. is_own p on (record Now { in_hand = false })
      ∙ sym (through_kept (acking pair own.from own.queue) own.from (Index own.queue lane.acked) ∙ receives_now own pair (record lane { acked = lane.acked + 1; phase = Idle }))))
      (λ side queue c off.
      let lane = lane_to pair side queue in
      ack_cases reading (Tells (Ack p side queue)) pair side queue (λ r no. refused (Ack p side queue) r no.is)
      (λ turn. is_aside p side queue off (record Now { in_hand = false })
      ∙ sym (through_kept (acking pair side queue) side (Index queue lane.acked) ∙ received_off own pair side queue c (record lane { acked = lane.acked + 1; phase = Idle }) refl))) side queue

  -- what lands leaves the queue
  landed_kept : (now : PairPart) (side : Side) (label : Label) → queue_of_ledger own (lands_on now side label) ≡ queue_of_ledger own now
  landed_kept now side (Flag queue n) = lane_kept own now side queue (record (lane_of now side queue) { flagged = (lane_of now side queue).flagged + 1 }) (record { left = refl; in_hand = refl; cleared = refl })
  landed_kept now side (Down queue n) = lane_kept own now side queue (record (lane_of now side queue) { flagged = (lane_of now side queue).flagged + 1 }) (record { left = refl; in_hand = refl; cleared = refl })
  landed_kept now side (Bell queue) =
      let peer = side_of now (other_side side) in
      side_kept own now (other_side side) (record peer { pending = with_bit peer.pending queue }) (record { ready = refl; joined = refl; closed = refl })
  landed_kept now side (Index queue n) =
      lane_kept own now (other_side side) queue (record (lane_of now (other_side side) queue) { freed = n + 1 }) (record { left = refl; in_hand = refl; cleared = refl })
  landed_kept now side (Pad i value) =
      let peer = side_of now (other_side side) in
      side_kept own now (other_side side) (record peer { pads = slice_set peer.pads i value }) (record { ready = refl; joined = refl; closed = refl })
  landed_kept now side label = refl

  part_kept : (side : Side) (part : SidePart) → part.ready ≡ (side_of pair side).ready → part.joined ≡ (side_of pair side).joined → part.closed ≡ (side_of pair side).closed
      → queue_of_ledger own (with_side_part pair side part) ≡ Now
  part_kept side part ready joined closed =
      side_kept own pair side part (record { ready = ap (λ n. has_bit n own.queue) ready; joined = ap (λ n. has_bit n own.queue) joined; closed = ap (λ n. has_bit n own.queue) closed })

  dropped_kept : queue_of_ledger own (dropped pair) ≡ Now
  dropped_kept = go own.from
    where
      go : (from : Side)
          → queue_in own.queue (side_of (dropped pair) from) (lane_of pair from own.queue) (lane_to pair from own.queue)
          ≡ queue_in own.queue (side_of pair from) (lane_of pair from own.queue) (lane_to pair from own.queue)
      go A = refl
      go B = refl

  tells_next : (step : Step) → subject_of step ≡ own.pair → Tells step (read_next plan.devs Own reading bytes pair step)
  tells_next (Enable p side) e = enable_cases (Tells (Enable p side)) pair side (λ r no. refl) (λ _. refl)
  tells_next (Train p) e = train_cases (Tells (Train p)) pair (λ r no. refused (Train p) r no.is) (λ _. train_tells p e)
  tells_next (Break p) e = break_cases (Tells (Break p)) pair (λ r no. refl) (λ _. refl)
  tells_next (DropDone p) e = drop_cases (Tells (DropDone p)) pair (λ r no. refl) (λ _. sym dropped_kept)
  tells_next (Clean p side) e = clean_cases (Tells (Clean p side)) pair side (λ r no. refused (Clean p side) r no.is) (λ _. clean_tells p e side)
  tells_next (Offer p side) e =
      offer_cases (Tells (Offer p side)) Own pair side (λ r no. refl)
      (λ up more. sym (posted_kept (offering pair side) side (next_offer Own pair side) ∙ part_kept side (record (side_of pair side) { offered = (side_of pair side).offered + 1 }) refl refl refl))
  tells_next (Check p side) e = check_cases (Tells (Check p side)) Own pair side (λ r no. refl) (λ _. sym (part_kept side (record (side_of pair side) { up = true }) refl refl refl))
  tells_next (Ready p side queue) e = ready_tells p e side queue
  tells_next (Join p side queue) e = join_tells p e side queue
  tells_next (Begin p side queue frame) e = begin_tells p e side queue frame
  tells_next (QpDown p side queue) e = qpdown_tells p e side queue
  tells_next (Xbegin p side queue dev dst kind payload) e = xbegin_tells p e side queue dev dst kind payload
  tells_next (Post p side queue) e = post_tells p e side queue
  tells_next (Land p side place) e =
      land_cases (Tells (Land p side place)) Own pair side place (λ r no. refl)
      (λ label at may. sym (landed_kept (taken_out pair side place label) side label
      ∙ part_kept side (record (side_of pair side) { flight = remove (side_of pair side).flight place; poked = poked_without (side_of pair side) place label }) refl refl refl))
  tells_next (Look p side queue) e = look_tells p e side queue
  tells_next (Copy p side queue) e = copy_tells p side queue
  tells_next (Clear p side queue) e = clear_tells p e side queue
  tells_next (Ack p side queue) e = ack_tells p e side queue
  tells_next (Wake p side queue dev) e = wake_cases (Tells (Wake p side queue dev)) reading (dev_plan plan.devs dev) pair side queue (λ r no. refl) refl
  tells_next (Irq p side) e = sym (part_kept side (record (side_of pair side) { pending = bit_and (side_of pair side).pending (side_of pair side).masked }) refl refl refl)
  tells_next (Mask p side bits) e = sym (part_kept side (record (side_of pair side) { masked = bit_or (side_of pair side).masked bits }) refl refl refl)
  tells_next (Unmask p side bits) e = sym (part_kept side (record (side_of pair side) { masked = without_bits (side_of pair side).masked bits }) refl refl refl)
  tells_next (Spad p side i value) e = sym (posted_kept pair side (Pad i value))
  tells_next (Poke p side window offset poked) e = sym (raw_kept side (Raw window offset (length poked)) poked)
  tells_next step e = refl

-- Before any step

all-below : (count q : ℕ) → has_bit (all_below count) q ≡ nat_lt q count
all-below count q = elim (cases_Bool (nat_lt q count)) [
  | inl less ↦ ap (λ b. b == 1) (bit_at_ones count q (ltb-true q count less)) ∙ sym less
  | inr more ↦ ap (λ b. b == 1) (bit_at_ones_above count q (ltb-false q count more)) ∙ sym more
]

queue-fresh : (plan : Plan) (own : LaneName) → driver_start plan own ≡ queue_of_ledger own (fresh_pair (pair_plan plan own.pair))
queue-fresh plan own = go (pair_plan plan own.pair).up own.from
  where
    Own : PairPlan
    Own = pair_plan plan own.pair

    at_first : Bool → Driver
    at_first among = record { ready = among; joined = among; closed = false; left = 0; in_hand = false; cleared = 0 }

    go : (up : Bool) (from : Side)
        → at_first (up && nat_lt own.queue (side_plan Own from).queues)
        ≡ queue_in own.queue (at_side (if up then record { a = agreed_side Own.a Own.b; b = agreed_side Own.b Own.a } else both_of idle_side) from)
        (lane_of (fresh_pair Own) from own.queue) (lane_to (fresh_pair Own) from own.queue)
    go true A = rw (all-below Own.a.queues own.queue, empty-set own.queue) refl
    go true B = rw (all-below Own.b.queues own.queue, empty-set own.queue) refl
    go false A = rw (empty-set own.queue) refl
    go false B = rw (empty-set own.queue) refl

-- After every log

known_last : (plan : Plan) (own : LaneName) (log : List Answered) (made : Answered) → driver_after plan (log ++ made ∷ []) own ≡ driver_next plan own (driver_after plan log own) made
known_last plan own log made = fold-append (driver_next plan own) (driver_start plan own) log (made ∷ [])

known_run : (plan : Plan) (own : LaneName) → HoldsOfLog plan own.pair AnyStep (λ log pair. driver_after plan log own ≡ queue_of_ledger own pair)
known_run plan own = record {
  fresh = queue-fresh plan own;
  own = λ log bytes pair step any e todos h.
      known_last plan own log (made_by plan own.pair bytes pair step) ∙ ap (λ now. driver_next plan own now (made_by plan own.pair bytes pair step)) h
      ∙ tells_next plan own (reading_of (pair_plan plan own.pair) bytes pair) bytes pair step e;
  other = λ log pair made ne h. known_last plan own log made ∙ told-elsewhere plan own (driver_after plan log own) made.step made.answer ne ∙ h;
}

-- what the driver of a queue knows is what the ledger has
pub drivers_know : (plan : Plan) (memories : Memories) (steps : List Step) (own : LaneName) → driver_after plan (log_of plan memories steps) own ≡ queue_of_ledger own (ledger_of plan memories steps own.pair)
drivers_know plan memories steps own = log_after plan own.pair AnyStep _ (known_run plan own) memories steps (all_fit steps)
