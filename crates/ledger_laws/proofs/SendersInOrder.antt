-- A step that sends is refused as too long, stopped and for want of room if and only if the log says so, in this order.
use Rattle.std.proofs.Common.{◌≡◌, ℕ, ◌&&◌, Bool, true, false, not, Option, None, List, length, refl, sym, ap, ◌∙◌}
use Rattle.std.specs.Prelude.{nat_lt}
use Rattle.std.proofs.lemmas.Bool.{and_parts, cond-false, true≢false}
use Rattle.step_kinds.specs.Bits.{has_bit}
use Rattle.step_kinds.specs.declared.names.Side.{Side}
use Rattle.step_kinds.specs.declared.plan.Plan.{Plan}
use Rattle.step_kinds.specs.declared.steps.Answer.{Answer}
use Rattle.step_kinds.specs.declared.steps.Answer.TheVariants.{OkNumber, LinkDown, NotReady, Closed, TooLong, Busy, Stopped, Again, Awake}
use Rattle.step_kinds.specs.declared.steps.Step.{Step}
use Rattle.step_kinds.specs.declared.steps.Step.TheVariants.{Enable, Train, Break, DropDone, Clean, Offer, Check, Ready, Join, Begin, QpDown, Xbegin, Post, Land, Look, Copy, Clear, Ack, Wake}
use Rattle.pair_model.specs.Device.{stays_stopped}
use Rattle.pair_model.specs.Ethernet.{ethernet_frame}
use Rattle.pair_model.specs.Plans.{dev_plan, pair_plan}
use Rattle.pair_model.specs.Sizes.{pieces_in, sizes_of}
use Rattle.pair_model.specs.Headers.{Bytes}
use Rattle.ledger_model.specs.Ledger.{PairPart, side_of, lane_of, dev_of, link_up, with_dev}
use Rattle.ledger_model.specs.Log.{Answered, Memories, log_of, ledger_of, room_in}
use Rattle.ledger_model.specs.Next.{outcome_in}
use Rattle.ledger_model.specs.Outcome.{decided, refuse_if}
use Rattle.ledger_model.specs.Reading.{Reading, by_bytes, by_ledger, reading_of}
use Rattle.ledger_model.specs.Sending.{is_busy, flow_of}
use Rattle.ledger_laws.specs.Devices.{AgainWhereRingIsFull, StoppedWhereRingWasLow, finds_full, finds_stopped, is_stopped_answer, lacks_room}
use Rattle.ledger_laws.specs.Drivers.{TooLongWhereFrameIsLong, finds_long, fits_queue, has_left, is_too_long, may_begin, queue_named}
use Rattle.ledger_laws.specs.Laws.{IsOrdinaryPair, entries_needed, is_again}
use Rattle.step_kinds.specs.Subject.{subject_of}
use Rattle.ledger_laws.proofs.AgainWhereNoRoom.{room_known}
use Rattle.ledger_laws.proofs.LogGrowth.{answer_of}
use Rattle.ledger_laws.proofs.OfSending.{Not, others_not, sends}
use Rattle.ledger_laws.proofs.RefusedInOrder.{begin_is, busy_is, device_is, down_is, first_is, seen}
use Rattle.ledger_laws.proofs.StoppedByLog.{room_while_stopped, stopped_known}

-- The tests of a side that sends, one after another

-- what is found after those that don't depend on what is sent
sender_last : (is : Answer → Bool) → is LinkDown ≡ false → is NotReady ≡ false → is Closed ≡ false → (up joined shut found : Bool) (later : Option Answer) → first_is is later ≡ found
    → first_is is (refuse_if (not up) LinkDown (refuse_if (not joined) NotReady (refuse_if shut Closed later))) ≡ ((up && (joined && not shut)) && found)
sender_last is a b c false joined shut found later last = a
sender_last is a b c true false shut found later last = b
sender_last is a b c true true true found later last = c
sender_last is a b c true true false found later last = last

-- those of a frame, of which a device's has one more
abbrev Frame : Bool → Bool → Bool → ℕ → ℕ → ℕ → ℕ → Option Answer
Frame long busy full len most head tail = refuse_if long (TooLong len most) (refuse_if busy Busy (refuse_if full (Again head tail) None))

abbrev DeviceFrame : Bool → Bool → Bool → Bool → ℕ → ℕ → ℕ → ℕ → Option Answer
DeviceFrame long busy stopped full len most head tail = refuse_if long (TooLong len most) (refuse_if busy Busy (refuse_if stopped Stopped (refuse_if full (Again head tail) None)))

long_of_frame : (long busy full : Bool) (len most head tail : ℕ) → first_is is_too_long (Frame long busy full len most head tail) ≡ not (not long)
long_of_frame true busy full len most head tail = refl
long_of_frame false true full len most head tail = refl
long_of_frame false false true len most head tail = refl
long_of_frame false false false len most head tail = refl

long_of_device : (long busy stopped full : Bool) (len most head tail : ℕ) → first_is is_too_long (DeviceFrame long busy stopped full len most head tail) ≡ not (not long)
long_of_device true busy stopped full len most head tail = refl
long_of_device false true stopped full len most head tail = refl
long_of_device false false true full len most head tail = refl
long_of_device false false false true len most head tail = refl
long_of_device false false false false len most head tail = refl

full_of_frame : (long busy full : Bool) (len most head tail : ℕ) → first_is is_again (Frame long busy full len most head tail) ≡ (not long && (not busy && full))
full_of_frame true busy full len most head tail = refl
full_of_frame false true full len most head tail = refl
full_of_frame false false true len most head tail = refl
full_of_frame false false false len most head tail = refl

full_of_device : (long busy stopped full : Bool) (len most head tail : ℕ)
    → first_is is_again (DeviceFrame long busy stopped full len most head tail) ≡ (not long && (not busy && (not stopped && full)))
full_of_device true busy stopped full len most head tail = refl
full_of_device false true stopped full len most head tail = refl
full_of_device false false true full len most head tail = refl
full_of_device false false false true len most head tail = refl
full_of_device false false false false len most head tail = refl

stopped_of_frame : (long busy full : Bool) (len most head tail : ℕ) → first_is is_stopped_answer (Frame long busy full len most head tail) ≡ false
stopped_of_frame true busy full len most head tail = refl
stopped_of_frame false true full len most head tail = refl
stopped_of_frame false false true len most head tail = refl
stopped_of_frame false false false len most head tail = refl

stopped_of_device : (long busy stopped full : Bool) (len most head tail : ℕ)
    → first_is is_stopped_answer (DeviceFrame long busy stopped full len most head tail) ≡ (not long && (not busy && stopped))
stopped_of_device true busy stopped full len most head tail = refl
stopped_of_device false true stopped full len most head tail = refl
stopped_of_device false false true full len most head tail = refl
stopped_of_device false false false true len most head tail = refl
stopped_of_device false false false false len most head tail = refl

-- those of a link-down entry
abbrev GoingDown : Bool → Bool → ℕ → ℕ → Option Answer
GoingDown busy full head tail = refuse_if busy Busy (refuse_if full (Again head tail) None)

full_of_down : (busy full : Bool) (head tail : ℕ) → first_is is_again (GoingDown busy full head tail) ≡ (not busy && full)
full_of_down true full head tail = refl
full_of_down false true head tail = refl
full_of_down false false head tail = refl

none_of_down : (is : Answer → Bool) → is Busy ≡ false → ((head tail : ℕ) → is (Again head tail) ≡ false) → (busy full : Bool) (head tail : ℕ) → first_is is (GoingDown busy full head tail) ≡ false
none_of_down is a b true full head tail = a
none_of_down is a b false true head tail = b head tail
none_of_down is a b false false head tail = refl

-- and the one of a wake
stopped_of_wake : (stays : Bool) (old new : PairPart) → is_stopped_answer (decided old (refuse_if stays Stopped None) Awake new).answer ≡ stays
stopped_of_wake true old new = refl
stopped_of_wake false old new = refl

none_of_wake : (is : Answer → Bool) → is Stopped ≡ false → is Awake ≡ false → (stays : Bool) (old new : PairPart) → is (decided old (refuse_if stays Stopped None) Awake new).answer ≡ false
none_of_wake is a b true old new = a
none_of_wake is a b false old new = b

-- what no other step is answered
not_long : (answer : Answer) → Not answer → is_too_long answer ≡ false
not_long (TooLong len most) e = absurd (true≢false e)
not_long answer e = refl

not_stopped : (answer : Answer) → Not answer → is_stopped_answer answer ≡ false
not_stopped Stopped e = absurd (true≢false e)
not_stopped answer e = refl

not_again : (answer : Answer) → Not answer → is_again answer ≡ false
not_again (Again head tail) e = absurd (true≢false e)
not_again answer e = refl

-- a second test counts only if the first holds
guarded : (b x y : Bool) → (b ≡ true → x ≡ y) → (b && x) ≡ (b && y)
guarded true x y same = same refl
guarded false x y same = refl

and_false : (b : Bool) → (b && false) ≡ false
and_false true = refl
and_false false = refl

-- The laws

module _ (plan : Plan) (memories : Memories) (steps : List Step) where
  abbrev Log : List Answered
  Log = log_of plan memories steps

  abbrev Pair : ℕ → PairPart
  Pair k = ledger_of plan memories steps k

  abbrev Bytes_of : ℕ → Bytes
  Bytes_of k = memories (log_of plan memories steps) k

  abbrev Read : ℕ → Reading
  Read k = reading_of (pair_plan plan k) (Bytes_of k) (Pair k)

  abbrev After : Step → Answer
  After step = (outcome_in plan (memories (log_of plan memories steps)) (ledger_of plan memories steps) step).answer

  -- by the ledger: the side may send, its frame of this many bytes is too long, its lane is busy, and its device is
  -- stopped
  abbrev May : ℕ → Side → ℕ → Bool
  May p side queue = link_up (Pair p) && (has_bit (side_of (Pair p) side).joined queue && not (has_bit (side_of (Pair p) side).closed queue))

  abbrev Long : ℕ → Side → ℕ → List ℕ → Bool
  Long p side queue frame = nat_lt (sizes_of (pair_plan plan p) side queue).most (length frame)

  abbrev IsBusy : ℕ → Side → ℕ → Bool
  IsBusy p side queue = is_busy (lane_of (Pair p) side queue)

  abbrev IsStopped : ℕ → Side → ℕ → Bool
  IsStopped p side queue = (dev_of (Pair p) side queue).stopped

  abbrev Full : ℕ → Side → ℕ → ℕ → Bool
  Full p side queue needed = nat_lt ((Read p).free side queue) needed

  abbrev DevFrame : ℕ → List ℕ → ℕ → List ℕ → List ℕ
  DevFrame dev dst kind payload = ethernet_frame dst (dev_plan plan.devs dev).address kind payload

  others : (step : Step) → sends step ≡ false → Not (After step)
  others step e = others_not plan.devs (pair_plan plan (subject_of step)) (Read (subject_of step)) (Bytes_of (subject_of step)) (Pair (subject_of step)) step e

  -- what is found of each of the three steps, by the tests after the first ones
  begin_found : (is : Answer → Bool) → is LinkDown ≡ false → is NotReady ≡ false → is Closed ≡ false → ((n : ℕ) → is (OkNumber n) ≡ false) → (found : Bool)
      → (p : ℕ) (side : Side) (queue : ℕ) (frame : List ℕ)
      → ((len most head tail : ℕ) → first_is is (Frame (Long p side queue frame) (IsBusy p side queue) (Full p side queue (pieces_in (sizes_of (pair_plan plan p) side queue).largest (length frame))) len most head tail) ≡ found)
      → is (After (Begin p side queue frame)) ≡ (May p side queue && found)
  begin_found is a b c made found p side queue frame later =
      begin_is plan.devs (pair_plan plan p) (Read p) (Bytes_of p) (Pair p) is made side queue frame
      ∙ sender_last is a b c (link_up (Pair p)) (has_bit (side_of (Pair p) side).joined queue) (has_bit (side_of (Pair p) side).closed queue) found _ (later _ _ _ _)

  device_found : (is : Answer → Bool) → is LinkDown ≡ false → is NotReady ≡ false → is Closed ≡ false → ((n : ℕ) → is (OkNumber n) ≡ false) → (found : Bool)
      → (p : ℕ) (side : Side) (queue dev : ℕ) (dst : List ℕ) (kind : ℕ) (payload : List ℕ)
      → ((len most head tail : ℕ) → first_is is
      (DeviceFrame (Long p side queue (DevFrame dev dst kind payload)) (IsBusy p side queue) (IsStopped p side queue)
      (Full p side queue (pieces_in (sizes_of (pair_plan plan p) side queue).largest (length (DevFrame dev dst kind payload)))) len most head tail) ≡ found)
      → is (After (Xbegin p side queue dev dst kind payload)) ≡ (May p side queue && found)
  device_found is a b c made found p side queue dev dst kind payload later =
      device_is plan.devs (pair_plan plan p) (Read p) (Bytes_of p) (Pair p) is made side queue dev dst kind payload
      ∙ sender_last is a b c (link_up (Pair p)) (has_bit (side_of (Pair p) side).joined queue) (has_bit (side_of (Pair p) side).closed queue) found _ (later _ _ _ _)

  down_found : (is : Answer → Bool) → is LinkDown ≡ false → is NotReady ≡ false → is Closed ≡ false → ((n : ℕ) → is (OkNumber n) ≡ false) → (found : Bool)
      → (p : ℕ) (side : Side) (queue : ℕ)
      → ((head tail : ℕ) → first_is is (GoingDown (IsBusy p side queue) (Full p side queue 1) head tail) ≡ found)
      → is (After (QpDown p side queue)) ≡ (May p side queue && found)
  down_found is a b c made found p side queue later =
      down_is plan.devs (pair_plan plan p) (Read p) (Bytes_of p) (Pair p) is made side queue
      ∙ sender_last is a b c (link_up (Pair p)) (has_bit (side_of (Pair p) side).joined queue) (has_bit (side_of (Pair p) side).closed queue) found _ (later _ _)

  -- the same by the log
  by_log : (f : Bool → Bool → Bool) (p : ℕ) (side : Side) (queue : ℕ)
      → f (May p side queue) (IsBusy p side queue) ≡ f (may_begin plan Log (queue_named p side queue)) (has_left plan Log (queue_named p side queue))
  by_log f p side queue =
      ap (λ busy. f (May p side queue) busy) (busy_is plan.devs (pair_plan plan p) (Read p) (Bytes_of p) (Pair p) side queue)
      ∙ seen plan memories steps (λ up known. f (up && (known.joined && not known.closed)) (nat_lt 0 known.left)) p side queue

  -- what is free, on an ordinary pair that is up
  full_known : (p : ℕ) (side : Side) (queue needed : ℕ) → IsOrdinaryPair plan p → May p side queue ≡ true → Full p side queue needed ≡ nat_lt (room_in plan Log (queue_named p side queue)) needed
  full_known p side queue needed no_raw may =
      ap (λ (reading : Reading). nat_lt (reading.free side queue) needed) (cond-false (pair_plan plan p).raw (by_bytes (pair_plan plan p) (Bytes_of p) (Pair p)) (by_ledger (pair_plan plan p) (Pair p)) no_raw)
      ∙ ap (λ free. nat_lt free needed)
      (room_known plan memories steps (queue_named p side queue) no_raw (and_parts (link_up (Pair p)) (has_bit (side_of (Pair p) side).joined queue && not (has_bit (side_of (Pair p) side).closed queue)) may).0)

  wake_none : (is : Answer → Bool) → is Stopped ≡ false → is Awake ≡ false → (p : ℕ) (side : Side) (queue dev : ℕ) → is (After (Wake p side queue dev)) ≡ false
  wake_none is a b p side queue dev =
      none_of_wake is a b (stays_stopped (flow_of (dev_plan plan.devs dev) (dev_of (Pair p) side queue)) ((Read p).free side queue)) (Pair p)
      (with_dev (Pair p) side queue (record (dev_of (Pair p) side queue) { stopped = false }))

  -- Too long

  long_after : (step : Step) → is_too_long (After step) ≡ finds_long plan Log step
  long_after (Begin p side queue frame) =
      begin_found is_too_long refl refl refl (λ n. refl) _ p side queue frame (λ len most head tail. long_of_frame _ _ _ len most head tail)
      ∙ by_log (λ may left. may && not (not (Long p side queue frame))) p side queue
  long_after (QpDown p side queue) =
      down_found is_too_long refl refl refl (λ n. refl) false p side queue (λ head tail. none_of_down is_too_long refl (λ h t. refl) _ _ head tail) ∙ and_false (May p side queue)
  long_after (Xbegin p side queue dev dst kind payload) =
      device_found is_too_long refl refl refl (λ n. refl) _ p side queue dev dst kind payload (λ len most head tail. long_of_device _ _ _ _ len most head tail)
      ∙ by_log (λ may left. may && not (not (Long p side queue (DevFrame dev dst kind payload)))) p side queue
  long_after (Wake p side queue dev) = wake_none is_too_long refl refl p side queue dev
  long_after (Enable p side) = not_long (After (Enable p side)) (others (Enable p side) refl)
  long_after (Train p) = not_long (After (Train p)) (others (Train p) refl)
  long_after (Break p) = not_long (After (Break p)) (others (Break p) refl)
  long_after (DropDone p) = not_long (After (DropDone p)) (others (DropDone p) refl)
  long_after (Clean p side) = not_long (After (Clean p side)) (others (Clean p side) refl)
  long_after (Offer p side) = not_long (After (Offer p side)) (others (Offer p side) refl)
  long_after (Check p side) = not_long (After (Check p side)) (others (Check p side) refl)
  long_after (Ready p side queue) = not_long (After (Ready p side queue)) (others (Ready p side queue) refl)
  long_after (Join p side queue) = not_long (After (Join p side queue)) (others (Join p side queue) refl)
  long_after (Post p side queue) = not_long (After (Post p side queue)) (others (Post p side queue) refl)
  long_after (Land p side place) = not_long (After (Land p side place)) (others (Land p side place) refl)
  long_after (Look p side queue) = not_long (After (Look p side queue)) (others (Look p side queue) refl)
  long_after (Copy p side queue) = not_long (After (Copy p side queue)) (others (Copy p side queue) refl)
  long_after (Clear p side queue) = not_long (After (Clear p side queue)) (others (Clear p side queue) refl)
  long_after (Ack p side queue) = not_long (After (Ack p side queue)) (others (Ack p side queue) refl)
  long_after step = refl

  -- Stopped

  stopped_after : (step : Step) → IsOrdinaryPair plan (subject_of step) → is_stopped_answer (After step) ≡ finds_stopped plan Log step
  stopped_after (Begin p side queue frame) no_raw =
      begin_found is_stopped_answer refl refl refl (λ n. refl) false p side queue frame (λ len most head tail. stopped_of_frame _ _ _ len most head tail) ∙ and_false (May p side queue)
  stopped_after (QpDown p side queue) no_raw =
      down_found is_stopped_answer refl refl refl (λ n. refl) false p side queue (λ head tail. none_of_down is_stopped_answer refl (λ h t. refl) _ _ head tail) ∙ and_false (May p side queue)
  stopped_after (Xbegin p side queue dev dst kind payload) no_raw =
      let own = queue_named p side queue in
      let fits = fits_queue plan own (DevFrame dev dst kind payload) in
      device_found is_stopped_answer refl refl refl (λ n. refl) _ p side queue dev dst kind payload (λ len most head tail. stopped_of_device _ _ _ _ len most head tail)
      ∙ by_log (λ may left. may && (fits && (not left && IsStopped p side queue))) p side queue
      ∙ ap (λ stopped. may_begin plan Log own && (fits && (not (has_left plan Log own) && stopped))) (sym (stopped_known plan memories steps own no_raw))
  stopped_after (Wake p side queue dev) no_raw =
      let own = queue_named p side queue in
      let start = (dev_plan plan.devs dev).start in
      stopped_of_wake (stays_stopped (flow_of (dev_plan plan.devs dev) (dev_of (Pair p) side queue)) ((Read p).free side queue)) (Pair p) (with_dev (Pair p) side queue (record (dev_of (Pair p) side queue) { stopped = false }))
      ∙ ap (λ (reading : Reading). IsStopped p side queue && nat_lt (reading.free side queue) start)
      (cond-false (pair_plan plan p).raw (by_bytes (pair_plan plan p) (Bytes_of p) (Pair p)) (by_ledger (pair_plan plan p) (Pair p)) no_raw)
      ∙ guarded (IsStopped p side queue) _ _ (λ stopped. ap (λ free. nat_lt free start) (room_while_stopped plan memories steps own no_raw stopped))
      ∙ ap (λ stopped. stopped && nat_lt (room_in plan Log own) start) (sym (stopped_known plan memories steps own no_raw))
  stopped_after (Enable p side) no_raw = not_stopped (After (Enable p side)) (others (Enable p side) refl)
  stopped_after (Train p) no_raw = not_stopped (After (Train p)) (others (Train p) refl)
  stopped_after (Break p) no_raw = not_stopped (After (Break p)) (others (Break p) refl)
  stopped_after (DropDone p) no_raw = not_stopped (After (DropDone p)) (others (DropDone p) refl)
  stopped_after (Clean p side) no_raw = not_stopped (After (Clean p side)) (others (Clean p side) refl)
  stopped_after (Offer p side) no_raw = not_stopped (After (Offer p side)) (others (Offer p side) refl)
  stopped_after (Check p side) no_raw = not_stopped (After (Check p side)) (others (Check p side) refl)
  stopped_after (Ready p side queue) no_raw = not_stopped (After (Ready p side queue)) (others (Ready p side queue) refl)
  stopped_after (Join p side queue) no_raw = not_stopped (After (Join p side queue)) (others (Join p side queue) refl)
  stopped_after (Post p side queue) no_raw = not_stopped (After (Post p side queue)) (others (Post p side queue) refl)
  stopped_after (Land p side place) no_raw = not_stopped (After (Land p side place)) (others (Land p side place) refl)
  stopped_after (Look p side queue) no_raw = not_stopped (After (Look p side queue)) (others (Look p side queue) refl)
  stopped_after (Copy p side queue) no_raw = not_stopped (After (Copy p side queue)) (others (Copy p side queue) refl)
  stopped_after (Clear p side queue) no_raw = not_stopped (After (Clear p side queue)) (others (Clear p side queue) refl)
  stopped_after (Ack p side queue) no_raw = not_stopped (After (Ack p side queue)) (others (Ack p side queue) refl)
  stopped_after step no_raw = refl

  -- Again

  again_after : (step : Step) → IsOrdinaryPair plan (subject_of step) → is_again (After step) ≡ finds_full plan Log step
  again_after (Begin p side queue frame) no_raw =
      let own = queue_named p side queue in
      let fits = fits_queue plan own frame in
      begin_found is_again refl refl refl (λ n. refl) _ p side queue frame (λ len most head tail. full_of_frame _ _ _ len most head tail)
      ∙ guarded (May p side queue) _ _ (λ may. ap (λ full. fits && (not (IsBusy p side queue) && full)) (full_known p side queue (entries_needed plan own (Begin p side queue frame)) no_raw may))
      ∙ by_log (λ may left. may && (fits && (not left && lacks_room plan Log own (Begin p side queue frame)))) p side queue
  again_after (QpDown p side queue) no_raw =
      let own = queue_named p side queue in
      down_found is_again refl refl refl (λ n. refl) _ p side queue (λ head tail. full_of_down _ _ head tail)
      ∙ guarded (May p side queue) _ _ (λ may. ap (λ full. not (IsBusy p side queue) && full) (full_known p side queue 1 no_raw may))
      ∙ by_log (λ may left. may && (not left && lacks_room plan Log own (QpDown p side queue))) p side queue
  again_after (Xbegin p side queue dev dst kind payload) no_raw =
      let own = queue_named p side queue in
      let fits = fits_queue plan own (DevFrame dev dst kind payload) in
      let step = Xbegin p side queue dev dst kind payload in
      device_found is_again refl refl refl (λ n. refl) _ p side queue dev dst kind payload (λ len most head tail. full_of_device _ _ _ _ len most head tail)
      ∙ guarded (May p side queue) _ _
      (λ may. ap (λ full. fits && (not (IsBusy p side queue) && (not (IsStopped p side queue) && full))) (full_known p side queue (entries_needed plan own step) no_raw may))
      ∙ by_log (λ may left. may && (fits && (not left && (not (IsStopped p side queue) && lacks_room plan Log own step)))) p side queue
      ∙ ap (λ stopped. may_begin plan Log own && (fits && (not (has_left plan Log own) && (not stopped && lacks_room plan Log own step)))) (sym (stopped_known plan memories steps own no_raw))
  again_after (Wake p side queue dev) no_raw = wake_none is_again refl refl p side queue dev
  again_after (Enable p side) no_raw = not_again (After (Enable p side)) (others (Enable p side) refl)
  again_after (Train p) no_raw = not_again (After (Train p)) (others (Train p) refl)
  again_after (Break p) no_raw = not_again (After (Break p)) (others (Break p) refl)
  again_after (DropDone p) no_raw = not_again (After (DropDone p)) (others (DropDone p) refl)
  again_after (Clean p side) no_raw = not_again (After (Clean p side)) (others (Clean p side) refl)
  again_after (Offer p side) no_raw = not_again (After (Offer p side)) (others (Offer p side) refl)
  again_after (Check p side) no_raw = not_again (After (Check p side)) (others (Check p side) refl)
  again_after (Ready p side queue) no_raw = not_again (After (Ready p side queue)) (others (Ready p side queue) refl)
  again_after (Join p side queue) no_raw = not_again (After (Join p side queue)) (others (Join p side queue) refl)
  again_after (Post p side queue) no_raw = not_again (After (Post p side queue)) (others (Post p side queue) refl)
  again_after (Land p side place) no_raw = not_again (After (Land p side place)) (others (Land p side place) refl)
  again_after (Look p side queue) no_raw = not_again (After (Look p side queue)) (others (Look p side queue) refl)
  again_after (Copy p side queue) no_raw = not_again (After (Copy p side queue)) (others (Copy p side queue) refl)
  again_after (Clear p side queue) no_raw = not_again (After (Clear p side queue)) (others (Clear p side queue) refl)
  again_after (Ack p side queue) no_raw = not_again (After (Ack p side queue)) (others (Ack p side queue) refl)
  again_after step no_raw = refl

-- A step that sends is `toolong` if and only if its side may send by the log and its frame is longer than any may be.
pub too_long_where_frame_is_long : TooLongWhereFrameIsLong
too_long_where_frame_is_long plan memories steps step answer goes = ap is_too_long (answer_of plan memories steps step answer goes) ∙ long_after plan memories steps step

-- On an ordinary pair a frame past earlier tests, or a wake short of room, is `stopped` just if the log stops it.
pub stopped_where_ring_was_low : StoppedWhereRingWasLow
stopped_where_ring_was_low plan memories steps step answer no_raw goes = ap is_stopped_answer (answer_of plan memories steps step answer goes) ∙ stopped_after plan memories steps step no_raw

-- On an ordinary pair a step past all earlier tests is `again` if and only if the log has less room than it needs.
pub again_where_ring_is_full : AgainWhereRingIsFull
again_where_ring_is_full plan memories steps step answer no_raw goes = ap is_again (answer_of plan memories steps step answer goes) ∙ again_after plan memories steps step no_raw
