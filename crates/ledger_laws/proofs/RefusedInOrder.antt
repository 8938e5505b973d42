-- A step is refused as not ready, closed or busy if and only if its driver knows it. A look alone is answered `empty`
-- or `peerdown`.
use Rattle.std.proofs.Common.{◌≡◌, ℕ, ◌+◌, ◌==◌, Bool, true, false, not, ◌&&◌, ◌||◌, Option, Some, None, List, [], ◌∷◌, ◌++◌, length, map, refl, sym, ap, ◌∙◌, arith}
use Rattle.std.specs.Prelude.{if◌then◌else◌, nat_lt, slice_get}
use Rattle.std.proofs.lemmas.Bool.{cond_both, lt-ltb, true≢false}
use Rattle.step_kinds.specs.Bits.{has_bit}
use Rattle.step_kinds.specs.declared.names.Side.{Side}
use Rattle.step_kinds.specs.declared.plan.DevPlan.{DevPlan}
use Rattle.step_kinds.specs.declared.plan.PairPlan.{PairPlan}
use Rattle.step_kinds.specs.declared.plan.Plan.{Plan}
use Rattle.step_kinds.specs.declared.steps.Answer.{Answer}
use Rattle.step_kinds.specs.declared.steps.Answer.TheVariants.{Ok as Done, OkSession, OkNumber, LinkDown, Already, NotYet, NotReady, NotChecked, Version, Queues, Windows, Closed, TooLong, Busy, Stopped, Again, OutOfTurn, Joined, Empty, PeerDown, VerDiffers, Long, ReadyFrame, Offered, Up, Blocked, Landed, Cleared as ClearedFrame, Acked, Awake}
use Rattle.step_kinds.specs.declared.steps.Label.{Label}
use Rattle.step_kinds.specs.declared.steps.Label.TheVariants.{Index}
use Rattle.step_kinds.specs.declared.steps.Step.{Step}
use Rattle.step_kinds.specs.declared.steps.Step.TheVariants.{Enable, Train, Break, DropDone, Clean, Offer, Check, Ready, Join, Begin, QpDown, Xbegin, Post, Land, Look, Copy, Clear, Ack, Wake}
use Rattle.order_rules.specs.Order.{may_land}
use Rattle.lane_model.specs.Lane.{Entry, chunks_in}
use Rattle.pair_model.specs.Device.{stays_stopped}
use Rattle.pair_model.specs.Ethernet.{ethernet_frame}
use Rattle.pair_model.specs.Link.{enable_refusal, enabled_link, train_refusal, cut_refusal, drop_refusal, clean_refusal}
use Rattle.pair_model.specs.Orders.{order_of}
use Rattle.pair_model.specs.Pads.{links_pad, offers, pad_index, queues_pad, version_pad, windows_pad, first_larger, versions_differ}
use Rattle.pair_model.specs.Plans.{dev_plan, pair_plan, side_plan}
use Rattle.pair_model.specs.Sizes.{pieces_in, sizes_of}
use Rattle.pair_model.specs.declared.LinkRefusal.{LinkRefusal}
use Rattle.pair_model.specs.declared.LinkRefusal.TheVariants.{NotDown, Dirty, NotEnabled, NotUp, NotClosing, SessionsSpent}
use Rattle.pair_model.specs.Headers.{Bytes, Found, NoEntry, ALinkDownEntry, AnotherVersion, TooManyBytes, AnEntry}
use Rattle.ledger_model.specs.Handshake.{check_refusal, pad_in, refuse_larger}
use Rattle.ledger_model.specs.Ledger.{PairPart, head_in, side_of, lane_of, lane_to, dev_of, link_up, posts, with_dev, with_side_part}
use Rattle.ledger_model.specs.LinkSteps.{answer_of_refusal, refusal_answer}
use Rattle.ledger_model.specs.Log.{Memories, log_of, ledger_of, up_at}
use Rattle.ledger_model.specs.Next.{outcome_in, read_next}
use Rattle.ledger_model.specs.Outcome.{Outcome, decided, refuse_if}
use Rattle.ledger_model.specs.Reading.{Reading, reading_of}
use Rattle.ledger_model.specs.Receiving.{copy_of, is_cleared, is_copied, is_copying, is_idle, land_found, lands_on, look_at, look_refusal, taken_out}
use Rattle.ledger_model.specs.Sending.{is_busy, is_empty_list, begin_refusal, xbegin_refusal, refuse_sender, refuse_busy, refuse_full, begun, counts_refused, flow_of, posts_through}
use Rattle.ledger_laws.specs.Drivers.{Driver, NotReadyWhereNotJoined, ClosedWhereClosed, BusyWhereLeftToPost, driver_after, finds_busy, finds_closed, fits_queue, is_busy_answer, is_closed, is_empty_answer, is_not_ready, is_peer_down, is_shut, lacks_queue, queue_named, writes_in}
use Rattle.ledger_laws.proofs.KnownToDrivers.{drivers_know, queue_of_ledger, writes-more, writes-some}
use Rattle.ledger_laws.proofs.LinkDownWhereNotUp.{up_known}
use Rattle.ledger_laws.proofs.LogGrowth.{answer_of}
use Rattle.ledger_laws.proofs.Outcomes.{Each, Nothing, Just, each_if, each_decided}
use Rattle.ledger_laws.proofs.walk.Cases.{acking, broken, cleaned, clearing, closing, copied_entry, copied_last, copied_more, dropped, joining, next_offer, offering, post_cases, readied, ready_pad, sent_frame, trained}

-- The tests of a step, one after another

-- whether a refusal is the one asked for
abbrev pub first_is : (Answer → Bool) → Option Answer → Bool
first_is is None = false
first_is is (Some r) = is r

decided_is : (is : Answer → Bool) (old new : PairPart) (refusal : Option Answer) (made : Answer) → is made ≡ false → is (decided old refusal made new).answer ≡ first_is is refusal
decided_is is old new None made none = none
decided_is is old new (Some r) made none = refl

-- the three tests of a side that sends, and of what comes after them
sender_not_ready : (up joined shut : Bool) (later : Option Answer) → first_is is_not_ready later ≡ false
    → first_is is_not_ready (refuse_if (not up) LinkDown (refuse_if (not joined) NotReady (refuse_if shut Closed later))) ≡ (up && not joined)
sender_not_ready false joined shut later none = refl
sender_not_ready true false shut later none = refl
sender_not_ready true true true later none = refl
sender_not_ready true true false later none = none

sender_closed : (up joined shut : Bool) (later : Option Answer) → first_is is_closed later ≡ false
    → first_is is_closed (refuse_if (not up) LinkDown (refuse_if (not joined) NotReady (refuse_if shut Closed later))) ≡ (up && (joined && shut))
sender_closed false joined shut later none = refl
sender_closed true false shut later none = refl
sender_closed true true true later none = refl
sender_closed true true false later none = none

sender_busy : (up joined shut busy : Bool) (later : Option Answer) → first_is is_busy_answer later ≡ busy
    → first_is is_busy_answer (refuse_if (not up) LinkDown (refuse_if (not joined) NotReady (refuse_if shut Closed later))) ≡ ((up && (joined && not shut)) && busy)
sender_busy false joined shut busy later is = refl
sender_busy true false shut busy later is = refl
sender_busy true true true busy later is = refl
sender_busy true true false busy later is = is

-- the tests of a frame, of which those of a device have one more
none_of_frame : (is : Answer → Bool) (long busy stopped full : Bool) (len most head tail : ℕ) → is (TooLong len most) ≡ false → is Busy ≡ false → is Stopped ≡ false → is (Again head tail) ≡ false
    → first_is is (refuse_if long (TooLong len most) (refuse_if busy Busy (refuse_if stopped Stopped (refuse_if full (Again head tail) None)))) ≡ false
none_of_frame is true busy stopped full len most head tail a b c d = a
none_of_frame is false true stopped full len most head tail a b c d = b
none_of_frame is false false true full len most head tail a b c d = c
none_of_frame is false false false true len most head tail a b c d = d
none_of_frame is false false false false len most head tail a b c d = refl

busy_of_frame : (long busy stopped full : Bool) (len most head tail : ℕ)
    → first_is is_busy_answer (refuse_if long (TooLong len most) (refuse_if busy Busy (refuse_if stopped Stopped (refuse_if full (Again head tail) None)))) ≡ (not long && busy)
busy_of_frame true busy stopped full len most head tail = refl
busy_of_frame false true stopped full len most head tail = refl
busy_of_frame false false true full len most head tail = refl
busy_of_frame false false false true len most head tail = refl
busy_of_frame false false false false len most head tail = refl

-- something is left to post if and only if writes are
busy_left : (todo : List Label) (waiting : List Entry) → (not (is_empty_list todo) || not (is_empty_list waiting)) ≡ nat_lt 0 (length todo + writes_in waiting)
busy_left [] [] = refl
busy_left [] (entry ∷ others) = sym (lt-ltb 0 (0 + writes_in (entry ∷ others)) (let more = writes-more entry others in let some = writes-some entry in omega arith))
busy_left (label ∷ rest) waiting = sym (lt-ltb 0 (length (label ∷ rest) + writes_in waiting) (omega arith))

-- the same with no device, and with no frame
none_of_plain : (is : Answer → Bool) (long busy full : Bool) (len most head tail : ℕ) → is (TooLong len most) ≡ false → is Busy ≡ false → is (Again head tail) ≡ false
    → first_is is (refuse_if long (TooLong len most) (refuse_if busy Busy (refuse_if full (Again head tail) None))) ≡ false
none_of_plain is true busy full len most head tail a b d = a
none_of_plain is false true full len most head tail a b d = b
none_of_plain is false false true len most head tail a b d = d
none_of_plain is false false false len most head tail a b d = refl

busy_of_plain : (long busy full : Bool) (len most head tail : ℕ)
    → first_is is_busy_answer (refuse_if long (TooLong len most) (refuse_if busy Busy (refuse_if full (Again head tail) None))) ≡ (not long && busy)
busy_of_plain true busy full len most head tail = refl
busy_of_plain false true full len most head tail = refl
busy_of_plain false false true len most head tail = refl
busy_of_plain false false false len most head tail = refl

none_of_down : (is : Answer → Bool) (busy full : Bool) (head tail : ℕ) → is Busy ≡ false → is (Again head tail) ≡ false
    → first_is is (refuse_if busy Busy (refuse_if full (Again head tail) None)) ≡ false
none_of_down is true full head tail b d = b
none_of_down is false true head tail b d = d
none_of_down is false false head tail b d = refl

busy_of_down : (busy full : Bool) (head tail : ℕ) → first_is is_busy_answer (refuse_if busy Busy (refuse_if full (Again head tail) None)) ≡ busy
busy_of_down true full head tail = refl
busy_of_down false true head tail = refl
busy_of_down false false head tail = refl

-- the tests of a look, and those of a join
look_not_ready : (joined shut turn : Bool) → first_is is_not_ready (refuse_if (not joined) NotReady (refuse_if shut Closed (refuse_if turn OutOfTurn None))) ≡ not joined
look_not_ready false shut turn = refl
look_not_ready true true turn = refl
look_not_ready true false true = refl
look_not_ready true false false = refl

look_closed : (joined shut turn : Bool) → first_is is_closed (refuse_if (not joined) NotReady (refuse_if shut Closed (refuse_if turn OutOfTurn None))) ≡ (joined && shut)
look_closed false shut turn = refl
look_closed true true turn = refl
look_closed true false true = refl
look_closed true false false = refl

join_not_ready : (up ready joined asked : Bool)
    → first_is is_not_ready (refuse_if (not up) LinkDown (refuse_if (not ready) NotReady (refuse_if joined Already (refuse_if (not asked) NotYet None)))) ≡ (up && not ready)
join_not_ready false ready joined asked = refl
join_not_ready true false joined asked = refl
join_not_ready true true true asked = refl
join_not_ready true true false true = refl
join_not_ready true true false false = refl

-- what a look finds is none of them
pub found_is_none : (is : Answer → Bool) → is Empty ≡ false → is PeerDown ≡ false → ((seen own : ℕ) → is (VerDiffers seen own) ≡ false) → ((len most : ℕ) → is (Long len most) ≡ false)
    → ((number len : ℕ) → is (ReadyFrame number len) ≡ false) → (pair : PairPart) (side : Side) (queue : ℕ) (found : Found) → is (look_at pair side queue found).answer ≡ false
found_is_none is a b c d e pair side queue NoEntry = a
found_is_none is a b c d e pair side queue ALinkDownEntry = b
found_is_none is a b c d e pair side queue (AnotherVersion seen own) = c seen own
found_is_none is a b c d e pair side queue (TooManyBytes len most) = d len most
found_is_none is a b c d e pair side queue (AnEntry len left) = e (lane_to pair side queue).got len

-- no answer of a look that finds no frame
abbrev pub Neither : Answer → Type 0
Neither answer = (is_empty_answer answer ≡ false) × (is_peer_down answer ≡ false)

-- and none of the three
abbrev NoneOf : Answer → Type 0
NoneOf answer = (is_not_ready answer ≡ false) × ((is_closed answer ≡ false) × ((is_busy_answer answer ≡ false) × Neither answer))

none_if : (b : Bool) (refusal : Answer) (later : Option Answer) → NoneOf refusal → Each NoneOf later → Each NoneOf (refuse_if b refusal later)
none_if b refusal later none rest = each_if NoneOf b refusal later none rest

link_refusal : (refusal : LinkRefusal) → NoneOf (refusal_answer refusal)
link_refusal NotDown = (refl, (refl, (refl, (refl, refl))))
link_refusal Dirty = (refl, (refl, (refl, (refl, refl))))
link_refusal NotEnabled = (refl, (refl, (refl, (refl, refl))))
link_refusal NotUp = (refl, (refl, (refl, (refl, refl))))
link_refusal NotClosing = (refl, (refl, (refl, (refl, refl))))
link_refusal SessionsSpent = (refl, (refl, (refl, (refl, refl))))

-- the steps of a queue that may be refused so
abbrev is_queue_step : Step → Bool
is_queue_step (Join p side queue) = true
is_queue_step (Begin p side queue frame) = true
is_queue_step (QpDown p side queue) = true
is_queue_step (Xbegin p side queue dev dst kind payload) = true
is_queue_step (Look p side queue) = true
is_queue_step step = false

-- What each step is answered, by the pair as it was before

module _ (devs : List DevPlan) (plan : PairPlan) (reading : Reading) (bytes : Bytes) (pair : PairPart) where
  abbrev Has : Side → ℕ → Driver
  Has side queue = queue_of_ledger (queue_named 0 side queue) pair

  abbrev Next : Step → Answer
  Next step = (read_next devs plan reading bytes pair step).answer

  abbrev Frame : ℕ → List ℕ → ℕ → List ℕ → List ℕ
  Frame dev dst kind payload = ethernet_frame dst (dev_plan devs dev).address kind payload

  abbrev IsBusy : Side → ℕ → Bool
  IsBusy side queue = nat_lt 0 (Has side queue).left

  abbrev May : Side → ℕ → Bool
  May side queue = link_up pair && ((Has side queue).joined && not (Has side queue).closed)

  pub busy_is : (side : Side) (queue : ℕ) → is_busy (lane_of pair side queue) ≡ IsBusy side queue
  busy_is side queue = busy_left (lane_of pair side queue).todo (lane_of pair side queue).waiting

  pub begin_is : (is : Answer → Bool) → ((n : ℕ) → is (OkNumber n) ≡ false) → (side : Side) (queue : ℕ) (frame : List ℕ)
      → is (Next (Begin 0 side queue frame)) ≡ first_is is (begin_refusal (sizes_of plan side queue) reading pair side queue (length frame))
  begin_is is made side queue frame =
      decided_is is pair (begun (sizes_of plan side queue) pair side queue frame) (begin_refusal (sizes_of plan side queue) reading pair side queue (length frame)) (OkNumber (lane_of pair side queue).told) (made _)

  begin_not_ready : (side : Side) (queue : ℕ) (frame : List ℕ) → is_not_ready (Next (Begin 0 side queue frame)) ≡ (link_up pair && not (Has side queue).joined)
  begin_not_ready side queue frame =
      begin_is is_not_ready (λ n. refl) side queue frame
      ∙ sender_not_ready (link_up pair) (Has side queue).joined (Has side queue).closed _ (none_of_plain is_not_ready _ _ _ _ _ _ _ refl refl refl)

  begin_closed : (side : Side) (queue : ℕ) (frame : List ℕ) → is_closed (Next (Begin 0 side queue frame)) ≡ (link_up pair && ((Has side queue).joined && (Has side queue).closed))
  begin_closed side queue frame =
      begin_is is_closed (λ n. refl) side queue frame
      ∙ sender_closed (link_up pair) (Has side queue).joined (Has side queue).closed _ (none_of_plain is_closed _ _ _ _ _ _ _ refl refl refl)

  begin_busy : (side : Side) (queue : ℕ) (frame : List ℕ) → is_busy_answer (Next (Begin 0 side queue frame)) ≡ (May side queue && (not (nat_lt (sizes_of plan side queue).most (length frame)) && IsBusy side queue))
  begin_busy side queue frame =
      begin_is is_busy_answer (λ n. refl) side queue frame
      ∙ sender_busy (link_up pair) (Has side queue).joined (Has side queue).closed _ _ (busy_of_plain _ _ _ _ _ _ _)
      ∙ ap (λ b. May side queue && (not (nat_lt (sizes_of plan side queue).most (length frame)) && b)) (busy_is side queue)

  pub down_is : (is : Answer → Bool) → ((n : ℕ) → is (OkNumber n) ≡ false) → (side : Side) (queue : ℕ)
      → is (Next (QpDown 0 side queue)) ≡ first_is is (refuse_sender pair side queue (refuse_busy (lane_of pair side queue) (refuse_full (sizes_of plan side queue) reading (lane_of pair side queue) side queue 1 None)))
  down_is is made side queue =
      decided_is is pair (closing pair side queue) (refuse_sender pair side queue (refuse_busy (lane_of pair side queue) (refuse_full (sizes_of plan side queue) reading (lane_of pair side queue) side queue 1 None)))
      (OkNumber (lane_of pair side queue).told) (made _)

  down_not_ready : (side : Side) (queue : ℕ) → is_not_ready (Next (QpDown 0 side queue)) ≡ (link_up pair && not (Has side queue).joined)
  down_not_ready side queue =
      down_is is_not_ready (λ n. refl) side queue ∙ sender_not_ready (link_up pair) (Has side queue).joined (Has side queue).closed _ (none_of_down is_not_ready _ _ _ _ refl refl)

  down_closed : (side : Side) (queue : ℕ) → is_closed (Next (QpDown 0 side queue)) ≡ (link_up pair && ((Has side queue).joined && (Has side queue).closed))
  down_closed side queue =
      down_is is_closed (λ n. refl) side queue ∙ sender_closed (link_up pair) (Has side queue).joined (Has side queue).closed _ (none_of_down is_closed _ _ _ _ refl refl)

  down_busy : (side : Side) (queue : ℕ) → is_busy_answer (Next (QpDown 0 side queue)) ≡ (May side queue && IsBusy side queue)
  down_busy side queue =
      down_is is_busy_answer (λ n. refl) side queue
      ∙ sender_busy (link_up pair) (Has side queue).joined (Has side queue).closed _ _ (busy_of_down _ _ _ _)
      ∙ ap (λ b. May side queue && b) (busy_is side queue)

  pub device_is : (is : Answer → Bool) → ((n : ℕ) → is (OkNumber n) ≡ false) → (side : Side) (queue dev : ℕ) (dst : List ℕ) (kind : ℕ) (payload : List ℕ)
      → is (Next (Xbegin 0 side queue dev dst kind payload)) ≡ first_is is (xbegin_refusal (sizes_of plan side queue) reading pair (dev_of pair side queue) side queue (length (Frame dev dst kind payload)))
  device_is is made side queue dev dst kind payload =
      decided_is is (counts_refused pair side queue) (sent_frame reading (sizes_of plan side queue) (dev_plan devs dev) pair side queue (Frame dev dst kind payload))
      (xbegin_refusal (sizes_of plan side queue) reading pair (dev_of pair side queue) side queue (length (Frame dev dst kind payload))) (OkNumber (lane_of pair side queue).told) (made _)

  device_not_ready : (side : Side) (queue dev : ℕ) (dst : List ℕ) (kind : ℕ) (payload : List ℕ) → is_not_ready (Next (Xbegin 0 side queue dev dst kind payload)) ≡ (link_up pair && not (Has side queue).joined)
  device_not_ready side queue dev dst kind payload =
      device_is is_not_ready (λ n. refl) side queue dev dst kind payload
      ∙ sender_not_ready (link_up pair) (Has side queue).joined (Has side queue).closed _ (none_of_frame is_not_ready _ _ _ _ _ _ _ _ refl refl refl refl)

  device_closed : (side : Side) (queue dev : ℕ) (dst : List ℕ) (kind : ℕ) (payload : List ℕ)
      → is_closed (Next (Xbegin 0 side queue dev dst kind payload)) ≡ (link_up pair && ((Has side queue).joined && (Has side queue).closed))
  device_closed side queue dev dst kind payload =
      device_is is_closed (λ n. refl) side queue dev dst kind payload
      ∙ sender_closed (link_up pair) (Has side queue).joined (Has side queue).closed _ (none_of_frame is_closed _ _ _ _ _ _ _ _ refl refl refl refl)

  device_busy : (side : Side) (queue dev : ℕ) (dst : List ℕ) (kind : ℕ) (payload : List ℕ)
      → is_busy_answer (Next (Xbegin 0 side queue dev dst kind payload)) ≡ (May side queue && (not (nat_lt (sizes_of plan side queue).most (length (Frame dev dst kind payload))) && IsBusy side queue))
  device_busy side queue dev dst kind payload =
      device_is is_busy_answer (λ n. refl) side queue dev dst kind payload
      ∙ sender_busy (link_up pair) (Has side queue).joined (Has side queue).closed _ _ (busy_of_frame _ _ _ _ _ _ _ _)
      ∙ ap (λ b. May side queue && (not (nat_lt (sizes_of plan side queue).most (length (Frame dev dst kind payload))) && b)) (busy_is side queue)

  look_is : (is : Answer → Bool) → is Empty ≡ false → is PeerDown ≡ false → ((seen own : ℕ) → is (VerDiffers seen own) ≡ false) → ((len most : ℕ) → is (Long len most) ≡ false)
      → ((number len : ℕ) → is (ReadyFrame number len) ≡ false) → (side : Side) (queue : ℕ) → is (Next (Look 0 side queue)) ≡ first_is is (look_refusal pair side queue)
  look_is is a b c d e side queue =
      decided_is is pair (look_at pair side queue (reading.found side queue)).after (look_refusal pair side queue) (look_at pair side queue (reading.found side queue)).answer
      (found_is_none is a b c d e pair side queue (reading.found side queue))

  join_is : (side : Side) (queue : ℕ) → is_not_ready (Next (Join 0 side queue)) ≡ (link_up pair && not (Has side queue).ready)
  join_is side queue =
      decided_is is_not_ready pair (joining pair side queue)
      (refuse_if (not (link_up pair)) LinkDown
      (refuse_if (not (Has side queue).ready) NotReady
      (refuse_if (Has side queue).joined Already
      (refuse_if (not (has_bit (pad_in (side_of pair side) links_pad) queue)) NotYet None))))
      Joined refl
      ∙ join_not_ready (link_up pair) (Has side queue).ready (Has side queue).joined (has_bit (pad_in (side_of pair side) links_pad) queue)

  -- No other step is refused so

  offer_none : (side : Side) → NoneOf (Next (Offer 0 side))
  offer_none side =
      each_decided NoneOf pair
      (refuse_if (not (link_up pair)) LinkDown (refuse_if ((side_of pair side).offered == length (offers (side_plan plan side))) Already None))
      (Offered (pad_index (next_offer plan pair side))) (posts (offering pair side) side (next_offer plan pair side))
      (none_if (not (link_up pair)) LinkDown _ (refl, (refl, (refl, (refl, refl)))) (none_if ((side_of pair side).offered == length (offers (side_plan plan side))) Already None (refl, (refl, (refl, (refl, refl)))) Nothing)) (refl, (refl, (refl, (refl, refl))))

  check_none : (side : Side) → NoneOf (Next (Check 0 side))
  check_none side =
      each_decided NoneOf pair (check_refusal (side_plan plan side) (side_of pair side) (link_up pair)) Up (with_side_part pair side (record (side_of pair side) { up = true }))
      (none_if (not (link_up pair)) LinkDown _ (refl, (refl, (refl, (refl, refl))))
      (none_if (side_of pair side).up Already _ (refl, (refl, (refl, (refl, refl))))
      (none_if (pad_in (side_of pair side) version_pad == 0) NotYet _ (refl, (refl, (refl, (refl, refl))))
      (none_if (versions_differ (pad_in (side_of pair side) version_pad) (side_plan plan side).version)
      (Version (pad_in (side_of pair side) version_pad) (side_plan plan side).version) _ (refl, (refl, (refl, (refl, refl))))
      (none_if (not (pad_in (side_of pair side) queues_pad == (side_plan plan side).queues)) (Queues (pad_in (side_of pair side) queues_pad) (side_plan plan side).queues) _ (refl, (refl, (refl, (refl, refl))))
      (none_if (not (pad_in (side_of pair side) windows_pad == (side_plan plan side).windows)) (Windows (pad_in (side_of pair side) windows_pad) (side_plan plan side).windows) _ (refl, (refl, (refl, (refl, refl))))
      (larger (first_larger (side_plan plan side) (side_of pair side).pads)))))))) (refl, (refl, (refl, (refl, refl))))
    where
      larger : (found : Option ℕ) → Each NoneOf (refuse_larger (side_of pair side) (side_plan plan side).cap found None)
      larger None = Nothing
      larger (Some m) = Just (refl, (refl, (refl, (refl, refl))))

  ready_none : (side : Side) (queue : ℕ) → NoneOf (Next (Ready 0 side queue))
  ready_none side queue =
      each_decided NoneOf pair
      (refuse_if (not (link_up pair)) LinkDown (refuse_if (not (side_of pair side).up) NotChecked (refuse_if (has_bit (side_of pair side).ready queue) Already None)))
      Done (posts (readied pair side queue) side (ready_pad pair side queue))
      (none_if _ LinkDown _ (refl, (refl, (refl, (refl, refl)))) (none_if _ NotChecked _ (refl, (refl, (refl, (refl, refl)))) (none_if _ Already None (refl, (refl, (refl, (refl, refl)))) Nothing))) (refl, (refl, (refl, (refl, refl))))

  join_none : (side : Side) (queue : ℕ) → (is_closed (Next (Join 0 side queue)) ≡ false) × (is_busy_answer (Next (Join 0 side queue)) ≡ false)
  join_none side queue =
      each_decided (λ a. (is_closed a ≡ false) × (is_busy_answer a ≡ false)) pair
      (refuse_if (not (link_up pair)) LinkDown
      (refuse_if (not (has_bit (side_of pair side).ready queue)) NotReady
      (refuse_if (has_bit (side_of pair side).joined queue) Already
      (refuse_if (not (has_bit (pad_in (side_of pair side) links_pad) queue)) NotYet None))))
      Joined (joining pair side queue)
      (each_if _ (not (link_up pair)) LinkDown _ (refl, refl)
      (each_if _ (not (has_bit (side_of pair side).ready queue)) NotReady _ (refl, refl)
      (each_if _ (has_bit (side_of pair side).joined queue) Already _ (refl, refl)
      (each_if _ (not (has_bit (pad_in (side_of pair side) links_pad) queue)) NotYet None (refl, refl) Nothing)))) (refl, refl)

  look_not_busy : (side : Side) (queue : ℕ) → is_busy_answer (Next (Look 0 side queue)) ≡ false
  look_not_busy side queue =
      each_decided (λ a. is_busy_answer a ≡ false) pair (look_refusal pair side queue) (look_at pair side queue (reading.found side queue)).answer (look_at pair side queue (reading.found side queue)).after
      (each_if _ (not (has_bit (side_of pair side).joined queue)) NotReady _ refl
      (each_if _ (has_bit (side_of pair side).closed queue) Closed _ refl
      (each_if _ (not (is_idle (lane_to pair side queue).phase)) OutOfTurn None refl Nothing)))
      (found_is_none is_busy_answer refl refl (λ seen own. refl) (λ len most. refl) (λ number len. refl) pair side queue (reading.found side queue))

  land_none : (side : Side) (place : ℕ) → NoneOf (Next (Land 0 side place))
  land_none side place = go (slice_get (side_of pair side).flight place)
    where
      go : (found : Option Label) → NoneOf (land_found plan pair side place found).answer
      go None = (refl, (refl, (refl, (refl, refl))))
      go (Some label) =
          each_decided NoneOf pair (refuse_if (not (may_land (map (order_of plan side) (side_of pair side).flight) place)) Blocked None) (Landed label)
          (lands_on (taken_out pair side place label) side label) (none_if _ Blocked None (refl, (refl, (refl, (refl, refl)))) Nothing) (refl, (refl, (refl, (refl, refl))))

  copy_none : (side : Side) (queue : ℕ) → NoneOf (Next (Copy 0 side queue))
  copy_none side queue =
      let lane = lane_to pair side queue in
      let copied = copy_of pair side queue lane (lane.gathered ++ reading.part side queue) in
      each_decided NoneOf pair (refuse_if (not (is_copying lane.phase)) OutOfTurn None) copied.answer copied.after (none_if _ OutOfTurn None (refl, (refl, (refl, (refl, refl)))) Nothing)
      (cond_both (nat_lt (lane.part + 1) (chunks_in lane.len)) (copied_more pair side queue lane (lane.gathered ++ reading.part side queue))
      (if nat_lt 0 lane.left then copied_entry pair side queue lane (lane.gathered ++ reading.part side queue) else copied_last pair side queue lane (lane.gathered ++ reading.part side queue))
      (λ (o : Outcome). NoneOf o.answer) (λ _. (refl, (refl, (refl, (refl, refl)))))
      (λ _. cond_both (nat_lt 0 lane.left) (copied_entry pair side queue lane (lane.gathered ++ reading.part side queue)) (copied_last pair side queue lane (lane.gathered ++ reading.part side queue))
      (λ (o : Outcome). NoneOf o.answer) (λ _. (refl, (refl, (refl, (refl, refl))))) (λ _. (refl, (refl, (refl, (refl, refl)))))))

  neither_if : (b : Bool) (refusal : Answer) (later : Option Answer) → Neither refusal → Each Neither later → Each Neither (refuse_if b refusal later)
  neither_if b refusal later none rest = each_if Neither b refusal later none rest

  full_neither : (side : Side) (queue needed : ℕ) → Each Neither (refuse_full (sizes_of plan side queue) reading (lane_of pair side queue) side queue needed None)
  full_neither side queue needed =
      neither_if (nat_lt (reading.free side queue) needed) (Again (head_in (sizes_of plan side queue) (lane_of pair side queue)) (reading.index_word side queue)) None (refl, refl) Nothing

  sender_neither : (side : Side) (queue : ℕ) (later : Option Answer) → Each Neither later → Each Neither (refuse_sender pair side queue later)
  sender_neither side queue later rest =
      neither_if (not (link_up pair)) LinkDown (refuse_if (not (Has side queue).joined) NotReady (refuse_if (Has side queue).closed Closed later)) (refl, refl)
      (neither_if (not (Has side queue).joined) NotReady (refuse_if (Has side queue).closed Closed later) (refl, refl) (neither_if (Has side queue).closed Closed later (refl, refl) rest))

  begin_neither : (side : Side) (queue : ℕ) (frame : List ℕ) → Neither (Next (Begin 0 side queue frame))
  begin_neither side queue frame =
      let needed = pieces_in (sizes_of plan side queue).largest (length frame) in
      let full = refuse_full (sizes_of plan side queue) reading (lane_of pair side queue) side queue needed None in
      each_decided Neither pair (begin_refusal (sizes_of plan side queue) reading pair side queue (length frame)) (OkNumber (lane_of pair side queue).told) (begun (sizes_of plan side queue) pair side queue frame)
      (sender_neither side queue _
      (neither_if (nat_lt (sizes_of plan side queue).most (length frame)) (TooLong (length frame) (sizes_of plan side queue).most) (refuse_if (is_busy (lane_of pair side queue)) Busy full) (refl, refl)
      (neither_if (is_busy (lane_of pair side queue)) Busy full (refl, refl) (full_neither side queue needed)))) (refl, refl)

  down_neither : (side : Side) (queue : ℕ) → Neither (Next (QpDown 0 side queue))
  down_neither side queue =
      let full = refuse_full (sizes_of plan side queue) reading (lane_of pair side queue) side queue 1 None in
      each_decided Neither pair (refuse_sender pair side queue (refuse_busy (lane_of pair side queue) full)) (OkNumber (lane_of pair side queue).told) (closing pair side queue)
      (sender_neither side queue _ (neither_if (is_busy (lane_of pair side queue)) Busy full (refl, refl) (full_neither side queue 1))) (refl, refl)

  device_neither : (side : Side) (queue dev : ℕ) (dst : List ℕ) (kind : ℕ) (payload : List ℕ) → Neither (Next (Xbegin 0 side queue dev dst kind payload))
  device_neither side queue dev dst kind payload =
      let frame = Frame dev dst kind payload in
      let needed = pieces_in (sizes_of plan side queue).largest (length frame) in
      let full = refuse_full (sizes_of plan side queue) reading (lane_of pair side queue) side queue needed None in
      each_decided Neither (counts_refused pair side queue) (xbegin_refusal (sizes_of plan side queue) reading pair (dev_of pair side queue) side queue (length frame)) (OkNumber (lane_of pair side queue).told)
      (sent_frame reading (sizes_of plan side queue) (dev_plan devs dev) pair side queue frame)
      (sender_neither side queue _
      (neither_if (nat_lt (sizes_of plan side queue).most (length frame)) (TooLong (length frame) (sizes_of plan side queue).most)
      (refuse_if (is_busy (lane_of pair side queue)) Busy (refuse_if (dev_of pair side queue).stopped Stopped full)) (refl, refl)
      (neither_if (is_busy (lane_of pair side queue)) Busy (refuse_if (dev_of pair side queue).stopped Stopped full) (refl, refl)
      (neither_if (dev_of pair side queue).stopped Stopped full (refl, refl) (full_neither side queue needed))))) (refl, refl)

  join_neither : (side : Side) (queue : ℕ) → Neither (Next (Join 0 side queue))
  join_neither side queue =
      each_decided Neither pair
      (refuse_if (not (link_up pair)) LinkDown
      (refuse_if (not (has_bit (side_of pair side).ready queue)) NotReady
      (refuse_if (has_bit (side_of pair side).joined queue) Already
      (refuse_if (not (has_bit (pad_in (side_of pair side) links_pad) queue)) NotYet None))))
      Joined (joining pair side queue)
      (neither_if (not (link_up pair)) LinkDown _ (refl, refl)
      (neither_if (not (has_bit (side_of pair side).ready queue)) NotReady _ (refl, refl)
      (neither_if (has_bit (side_of pair side).joined queue) Already _ (refl, refl)
      (neither_if (not (has_bit (pad_in (side_of pair side) links_pad) queue)) NotYet None (refl, refl) Nothing)))) (refl, refl)

  turn_none : (b : Bool) (made : Answer) (new : PairPart) → NoneOf made → NoneOf (decided pair (refuse_if b OutOfTurn None) made new).answer
  turn_none b made new none = each_decided NoneOf pair (refuse_if b OutOfTurn None) made new (none_if b OutOfTurn None (refl, (refl, (refl, (refl, refl)))) Nothing) none

  post_none : (side : Side) (queue : ℕ) → NoneOf (Next (Post 0 side queue))
  post_none side queue = post_cases reading (λ o. NoneOf o.answer) pair side queue (refl, (refl, (refl, (refl, refl)))) (λ label rest e. (refl, (refl, (refl, (refl, refl))))) (λ entry others label rest idle waits e. (refl, (refl, (refl, (refl, refl)))))

  link_none : (refusal : Option LinkRefusal) (made : Answer) (new : PairPart) → NoneOf made → NoneOf (decided pair (answer_of_refusal refusal) made new).answer
  link_none None made new none = none
  link_none (Some refusal) made new none = link_refusal refusal

-- The laws

module _ (plan : Plan) (memories : Memories) (steps : List Step) where
  abbrev Bytes_of : ℕ → Bytes
  Bytes_of k = memories (log_of plan memories steps) k

  abbrev Pair : ℕ → PairPart
  Pair k = ledger_of plan memories steps k

  abbrev Read : ℕ → Reading
  Read k = reading_of (pair_plan plan k) (Bytes_of k) (Pair k)

  -- what is known of a queue, in the ledger's words and in the log's
  pub seen : (f : Bool → Driver → Bool) (p : ℕ) (side : Side) (queue : ℕ)
      → f (link_up (Pair p)) (queue_of_ledger (queue_named p side queue) (Pair p)) ≡ f (up_at plan p (log_of plan memories steps)) (driver_after plan (log_of plan memories steps) (queue_named p side queue))
  seen f p side queue =
      ap (λ up. f up (queue_of_ledger (queue_named p side queue) (Pair p))) (sym (up_known plan memories steps p))
      ∙ ap (λ known. f (up_at plan p (log_of plan memories steps)) known) (sym (drivers_know plan memories steps (queue_named p side queue)))

  abbrev After : Step → Answer
  After step = (outcome_in plan (memories (log_of plan memories steps)) (ledger_of plan memories steps) step).answer

  others_none : (step : Step) → is_queue_step step ≡ false → NoneOf (After step)
  others_none (Enable p side) e = link_none plan.devs (pair_plan plan p) (Read p) (Bytes_of p) (Pair p) (enable_refusal (Pair p).link side) Done (record (Pair p) { link = enabled_link (Pair p).link side }) (refl, (refl, (refl, (refl, refl))))
  others_none (Train p) e = link_none plan.devs (pair_plan plan p) (Read p) (Bytes_of p) (Pair p) (train_refusal (Pair p).link) (OkSession ((Pair p).link.session + 1)) (trained (Pair p)) (refl, (refl, (refl, (refl, refl))))
  others_none (Break p) e = link_none plan.devs (pair_plan plan p) (Read p) (Bytes_of p) (Pair p) (cut_refusal (Pair p).link) Done (broken (Pair p)) (refl, (refl, (refl, (refl, refl))))
  others_none (DropDone p) e = link_none plan.devs (pair_plan plan p) (Read p) (Bytes_of p) (Pair p) (drop_refusal (Pair p).link) Done (dropped (Pair p)) (refl, (refl, (refl, (refl, refl))))
  others_none (Clean p side) e = link_none plan.devs (pair_plan plan p) (Read p) (Bytes_of p) (Pair p) (clean_refusal (Pair p).link) Done (cleaned (Pair p) side) (refl, (refl, (refl, (refl, refl))))
  others_none (Offer p side) e = offer_none plan.devs (pair_plan plan p) (Read p) (Bytes_of p) (Pair p) side
  others_none (Check p side) e = check_none plan.devs (pair_plan plan p) (Read p) (Bytes_of p) (Pair p) side
  others_none (Ready p side queue) e = ready_none plan.devs (pair_plan plan p) (Read p) (Bytes_of p) (Pair p) side queue
  others_none (Join p side queue) e = absurd (true≢false e)
  others_none (Begin p side queue frame) e = absurd (true≢false e)
  others_none (QpDown p side queue) e = absurd (true≢false e)
  others_none (Xbegin p side queue dev dst kind payload) e = absurd (true≢false e)
  others_none (Post p side queue) e = post_none plan.devs (pair_plan plan p) (Read p) (Bytes_of p) (Pair p) side queue
  others_none (Land p side place) e = land_none plan.devs (pair_plan plan p) (Read p) (Bytes_of p) (Pair p) side place
  others_none (Look p side queue) e = absurd (true≢false e)
  others_none (Copy p side queue) e = copy_none plan.devs (pair_plan plan p) (Read p) (Bytes_of p) (Pair p) side queue
  others_none (Clear p side queue) e =
      turn_none plan.devs (pair_plan plan p) (Read p) (Bytes_of p) (Pair p) (not (is_copied (lane_to (Pair p) side queue).phase)) (ClearedFrame (lane_to (Pair p) side queue).cleared) (clearing (Pair p) side queue) (refl, (refl, (refl, (refl, refl))))
  others_none (Ack p side queue) e =
      turn_none plan.devs (pair_plan plan p) (Read p) (Bytes_of p) (Pair p) (not (is_cleared (lane_to (Pair p) side queue).phase)) (Acked (lane_to (Pair p) side queue).acked)
      (posts_through (Read p) (acking (Pair p) side queue) side (Index queue (lane_to (Pair p) side queue).acked)) (refl, (refl, (refl, (refl, refl))))
  others_none (Wake p side queue dev) e =
      each_decided NoneOf (Pair p) (refuse_if (stays_stopped (flow_of (dev_plan plan.devs dev) (dev_of (Pair p) side queue)) ((Read p).free side queue)) Stopped None) Awake
      (with_dev (Pair p) side queue (record (dev_of (Pair p) side queue) { stopped = false })) (none_if _ Stopped None (refl, (refl, (refl, (refl, refl)))) Nothing) (refl, (refl, (refl, (refl, refl))))
  others_none step e = (refl, (refl, (refl, (refl, refl))))

  not_ready_after : (step : Step) → is_not_ready (After step) ≡ lacks_queue plan (log_of plan memories steps) step
  not_ready_after (Begin p side queue frame) = begin_not_ready plan.devs (pair_plan plan p) (Read p) (Bytes_of p) (Pair p) side queue frame ∙ seen (λ up known. up && not known.joined) p side queue
  not_ready_after (QpDown p side queue) = down_not_ready plan.devs (pair_plan plan p) (Read p) (Bytes_of p) (Pair p) side queue ∙ seen (λ up known. up && not known.joined) p side queue
  not_ready_after (Xbegin p side queue dev dst kind payload) =
      device_not_ready plan.devs (pair_plan plan p) (Read p) (Bytes_of p) (Pair p) side queue dev dst kind payload ∙ seen (λ up known. up && not known.joined) p side queue
  not_ready_after (Look p side queue) =
      look_is plan.devs (pair_plan plan p) (Read p) (Bytes_of p) (Pair p) is_not_ready refl refl (λ a b. refl) (λ a b. refl) (λ a b. refl) side queue
      ∙ look_not_ready (has_bit (side_of (Pair p) side).joined queue) (has_bit (side_of (Pair p) side).closed queue) (not (is_idle (lane_to (Pair p) side queue).phase)) ∙ seen (λ up known. not known.joined) p side queue
  not_ready_after (Join p side queue) = join_is plan.devs (pair_plan plan p) (Read p) (Bytes_of p) (Pair p) side queue ∙ seen (λ up known. up && not known.ready) p side queue
  not_ready_after (Enable p side) = (others_none (Enable p side) refl).0
  not_ready_after (Train p) = (others_none (Train p) refl).0
  not_ready_after (Break p) = (others_none (Break p) refl).0
  not_ready_after (DropDone p) = (others_none (DropDone p) refl).0
  not_ready_after (Clean p side) = (others_none (Clean p side) refl).0
  not_ready_after (Offer p side) = (others_none (Offer p side) refl).0
  not_ready_after (Check p side) = (others_none (Check p side) refl).0
  not_ready_after (Ready p side queue) = (others_none (Ready p side queue) refl).0
  not_ready_after (Post p side queue) = (others_none (Post p side queue) refl).0
  not_ready_after (Land p side place) = (others_none (Land p side place) refl).0
  not_ready_after (Copy p side queue) = (others_none (Copy p side queue) refl).0
  not_ready_after (Clear p side queue) = (others_none (Clear p side queue) refl).0
  not_ready_after (Ack p side queue) = (others_none (Ack p side queue) refl).0
  not_ready_after (Wake p side queue dev) = (others_none (Wake p side queue dev) refl).0
  not_ready_after step = refl

  closed_after : (step : Step) → is_closed (After step) ≡ finds_closed plan (log_of plan memories steps) step
  closed_after (Begin p side queue frame) = begin_closed plan.devs (pair_plan plan p) (Read p) (Bytes_of p) (Pair p) side queue frame ∙ seen (λ up known. up && is_shut known) p side queue
  closed_after (QpDown p side queue) = down_closed plan.devs (pair_plan plan p) (Read p) (Bytes_of p) (Pair p) side queue ∙ seen (λ up known. up && is_shut known) p side queue
  closed_after (Xbegin p side queue dev dst kind payload) =
      device_closed plan.devs (pair_plan plan p) (Read p) (Bytes_of p) (Pair p) side queue dev dst kind payload ∙ seen (λ up known. up && is_shut known) p side queue
  closed_after (Look p side queue) =
      look_is plan.devs (pair_plan plan p) (Read p) (Bytes_of p) (Pair p) is_closed refl refl (λ a b. refl) (λ a b. refl) (λ a b. refl) side queue
      ∙ look_closed (has_bit (side_of (Pair p) side).joined queue) (has_bit (side_of (Pair p) side).closed queue) (not (is_idle (lane_to (Pair p) side queue).phase)) ∙ seen (λ up known. is_shut known) p side queue
  closed_after (Join p side queue) = (join_none plan.devs (pair_plan plan p) (Read p) (Bytes_of p) (Pair p) side queue).0
  closed_after (Enable p side) = (others_none (Enable p side) refl).1.0
  closed_after (Train p) = (others_none (Train p) refl).1.0
  closed_after (Break p) = (others_none (Break p) refl).1.0
  closed_after (DropDone p) = (others_none (DropDone p) refl).1.0
  closed_after (Clean p side) = (others_none (Clean p side) refl).1.0
  closed_after (Offer p side) = (others_none (Offer p side) refl).1.0
  closed_after (Check p side) = (others_none (Check p side) refl).1.0
  closed_after (Ready p side queue) = (others_none (Ready p side queue) refl).1.0
  closed_after (Post p side queue) = (others_none (Post p side queue) refl).1.0
  closed_after (Land p side place) = (others_none (Land p side place) refl).1.0
  closed_after (Copy p side queue) = (others_none (Copy p side queue) refl).1.0
  closed_after (Clear p side queue) = (others_none (Clear p side queue) refl).1.0
  closed_after (Ack p side queue) = (others_none (Ack p side queue) refl).1.0
  closed_after (Wake p side queue dev) = (others_none (Wake p side queue dev) refl).1.0
  closed_after step = refl

  busy_after : (step : Step) → is_busy_answer (After step) ≡ finds_busy plan (log_of plan memories steps) step
  busy_after (Begin p side queue frame) =
      begin_busy plan.devs (pair_plan plan p) (Read p) (Bytes_of p) (Pair p) side queue frame
      ∙ seen (λ up known. (up && (known.joined && not known.closed)) && (fits_queue plan (queue_named p side queue) frame && nat_lt 0 known.left)) p side queue
  busy_after (QpDown p side queue) =
      down_busy plan.devs (pair_plan plan p) (Read p) (Bytes_of p) (Pair p) side queue ∙ seen (λ up known. (up && (known.joined && not known.closed)) && nat_lt 0 known.left) p side queue
  busy_after (Xbegin p side queue dev dst kind payload) =
      device_busy plan.devs (pair_plan plan p) (Read p) (Bytes_of p) (Pair p) side queue dev dst kind payload
      ∙ seen (λ up known. (up && (known.joined && not known.closed)) && (fits_queue plan (queue_named p side queue) (ethernet_frame dst (dev_plan plan.devs dev).address kind payload) && nat_lt 0 known.left)) p side queue
  busy_after (Look p side queue) = look_not_busy plan.devs (pair_plan plan p) (Read p) (Bytes_of p) (Pair p) side queue
  busy_after (Join p side queue) = (join_none plan.devs (pair_plan plan p) (Read p) (Bytes_of p) (Pair p) side queue).1
  busy_after (Enable p side) = (others_none (Enable p side) refl).1.1.0
  busy_after (Train p) = (others_none (Train p) refl).1.1.0
  busy_after (Break p) = (others_none (Break p) refl).1.1.0
  busy_after (DropDone p) = (others_none (DropDone p) refl).1.1.0
  busy_after (Clean p side) = (others_none (Clean p side) refl).1.1.0
  busy_after (Offer p side) = (others_none (Offer p side) refl).1.1.0
  busy_after (Check p side) = (others_none (Check p side) refl).1.1.0
  busy_after (Ready p side queue) = (others_none (Ready p side queue) refl).1.1.0
  busy_after (Post p side queue) = (others_none (Post p side queue) refl).1.1.0
  busy_after (Land p side place) = (others_none (Land p side place) refl).1.1.0
  busy_after (Copy p side queue) = (others_none (Copy p side queue) refl).1.1.0
  busy_after (Clear p side queue) = (others_none (Clear p side queue) refl).1.1.0
  busy_after (Ack p side queue) = (others_none (Ack p side queue) refl).1.1.0
  busy_after (Wake p side queue dev) = (others_none (Wake p side queue dev) refl).1.1.0
  busy_after step = refl

-- a step that is no look finds nothing
abbrev is_queue_look : Step → Bool
is_queue_look (Look p side queue) = true
is_queue_look step = false

-- A step that is no look is answered neither `empty` nor `peerdown`.
pub neither_after : (plan : Plan) (memories : Memories) (steps : List Step) (step : Step) → is_queue_look step ≡ false
    → Neither (outcome_in plan (memories (log_of plan memories steps)) (ledger_of plan memories steps) step).answer
neither_after plan memories steps (Look p side queue) e = absurd (true≢false e)
neither_after plan memories steps (Begin p side queue frame) e = begin_neither plan.devs (pair_plan plan p) (Read plan memories steps p) (Bytes_of plan memories steps p) (Pair plan memories steps p) side queue frame
neither_after plan memories steps (QpDown p side queue) e = down_neither plan.devs (pair_plan plan p) (Read plan memories steps p) (Bytes_of plan memories steps p) (Pair plan memories steps p) side queue
neither_after plan memories steps (Xbegin p side queue dev dst kind payload) e =
    device_neither plan.devs (pair_plan plan p) (Read plan memories steps p) (Bytes_of plan memories steps p) (Pair plan memories steps p) side queue dev dst kind payload
neither_after plan memories steps (Join p side queue) e = join_neither plan.devs (pair_plan plan p) (Read plan memories steps p) (Bytes_of plan memories steps p) (Pair plan memories steps p) side queue
neither_after plan memories steps (Enable p side) e = (others_none plan memories steps (Enable p side) refl).1.1.1
neither_after plan memories steps (Train p) e = (others_none plan memories steps (Train p) refl).1.1.1
neither_after plan memories steps (Break p) e = (others_none plan memories steps (Break p) refl).1.1.1
neither_after plan memories steps (DropDone p) e = (others_none plan memories steps (DropDone p) refl).1.1.1
neither_after plan memories steps (Clean p side) e = (others_none plan memories steps (Clean p side) refl).1.1.1
neither_after plan memories steps (Offer p side) e = (others_none plan memories steps (Offer p side) refl).1.1.1
neither_after plan memories steps (Check p side) e = (others_none plan memories steps (Check p side) refl).1.1.1
neither_after plan memories steps (Ready p side queue) e = (others_none plan memories steps (Ready p side queue) refl).1.1.1
neither_after plan memories steps (Post p side queue) e = (others_none plan memories steps (Post p side queue) refl).1.1.1
neither_after plan memories steps (Land p side place) e = (others_none plan memories steps (Land p side place) refl).1.1.1
neither_after plan memories steps (Copy p side queue) e = (others_none plan memories steps (Copy p side queue) refl).1.1.1
neither_after plan memories steps (Clear p side queue) e = (others_none plan memories steps (Clear p side queue) refl).1.1.1
neither_after plan memories steps (Ack p side queue) e = (others_none plan memories steps (Ack p side queue) refl).1.1.1
neither_after plan memories steps (Wake p side queue dev) e = (others_none plan memories steps (Wake p side queue dev) refl).1.1.1
neither_after plan memories steps step e = (refl, refl)

-- A send or look that no link stops is `notready` exactly if its queue isn't joined, and a join if it isn't ready.
pub not_ready_where_not_joined : NotReadyWhereNotJoined
not_ready_where_not_joined plan memories steps step answer goes = ap is_not_ready (answer_of plan memories steps step answer goes) ∙ not_ready_after plan memories steps step

-- A step that sends or looks is `closed` if and only if the link doesn't stop it and its queue is joined and closed.
pub closed_where_closed : ClosedWhereClosed
closed_where_closed plan memories steps step answer goes = ap is_closed (answer_of plan memories steps step answer goes) ∙ closed_after plan memories steps step

-- A step that sends is `busy` if and only if its side may send, its frame fits and the log has writes left to post.
pub busy_where_left_to_post : BusyWhereLeftToPost
busy_where_left_to_post plan memories steps step answer goes = ap is_busy_answer (answer_of plan memories steps step answer goes) ∙ busy_after plan memories steps step
