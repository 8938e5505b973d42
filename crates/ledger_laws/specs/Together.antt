-- The laws together: what holds of the log of any steps that a plan permits, and what holds of the answer to one step
-- more.
use Rattle.std.specs.Prelude.{◌≡◌, ℕ, ◌+◌, ◌<◌, ◌==◌, ◌&&◌, ◌⊎◌, true, false, Some, List, [], ◌∷◌, ◌++◌, count_by, length, map, not, slice_get, if◌then◌else◌}
use Rattle.std.specs.List.{AllByRecursion}
use Rattle.step_kinds.specs.Bits.{has_bit}
use Rattle.step_kinds.specs.Sides.{other_side}
use Rattle.step_kinds.specs.Subject.{subject_of}
use Rattle.step_kinds.specs.declared.names.LaneName.{LaneName}
use Rattle.step_kinds.specs.declared.names.Side.{Side}
use Rattle.step_kinds.specs.declared.plan.Plan.{Plan}
use Rattle.step_kinds.specs.declared.steps.Answer.{Answer}
use Rattle.step_kinds.specs.declared.steps.Answer.TheVariants.{Up}
use Rattle.step_kinds.specs.declared.steps.Label.{Label}
use Rattle.step_kinds.specs.declared.steps.Step.{Step}
use Rattle.step_kinds.specs.declared.steps.Step.TheVariants.{Check, Clear, Copy}
use Rattle.order_rules.specs.Order.{may_land}
use Rattle.ring_geometry.specs.Geometry.{HasRing}
use Rattle.lane_model.specs.Law.{HoldsRingLaw}
use Rattle.lane_model.specs.Ring.{tail_of}
use Rattle.ledger_model.specs.Ledger.{dev_of, lane_of, lane_to, side_of, tally_of}
use Rattle.ledger_model.specs.Log.{Memories, accepted, counters_in, delivered, first_session, ledger_of, log_of, looked_in, posted_in, trains, up_at}
use Rattle.ledger_model.specs.Rings.{ring_of, shown_lane}
use Rattle.pair_model.specs.DeclaredPlans.{Agree, IsDeclared, IsPairOf, IsPermitted}
use Rattle.pair_model.specs.Link.{is_down}
use Rattle.pair_model.specs.Orders.{order_of}
use Rattle.pair_model.specs.Plans.{pair_plan, side_plan}
use Rattle.pair_model.specs.Sizes.{layout_of, sizes_of}
use Rattle.ledger_laws.specs.Devices.{finds_full, finds_stopped, is_stopped_answer}
use Rattle.ledger_laws.specs.Drivers.{finds_busy, finds_closed, finds_down, finds_long, finds_nothing, is_busy_answer, is_closed, is_empty_answer, is_not_ready, is_peer_down, is_too_long, lacks_queue}
use Rattle.ledger_laws.specs.Flights.{in_flight as in_flight_by}
use Rattle.ledger_laws.specs.Landing.{LandsInLane}
use Rattle.ledger_laws.specs.Laws.{Agrees, FitsLook, GoesOn, IsDone, IsInOrder, IsOrdinaryPair, IsQuiet, KeepsPairsApart, after_refusal, has_forgotten, is_again, is_link_down, is_unlike, labels_from, made_on, needs_link, steps_on, times_of}
use Rattle.step_kinds.specs.Answers.{is_made}
use Rattle.ledger_laws.specs.Rings.{with_tail}
use Rattle.ledger_laws.specs.States.{AgreesWith, HasNoEntry, HasNotComeUp, HasNothingInFlight}

-- Of the log of steps, and of the ledger after them
pub record HoldsLaws (plan : Plan) (memories : Memories) (steps : List Step) : Type 0 where
  -- on an ordinary pair what a lane delivered in a session is a prefix of what it accepted there, and no frame comes
  -- twice
  pub in_order : (lane : LaneName) (session : ℕ) → IsOrdinaryPair plan lane.pair → IsInOrder plan (log_of plan memories steps) lane session
  pub once : (lane : LaneName) (session n : ℕ) → IsOrdinaryPair plan lane.pair → times_of n (delivered plan (log_of plan memories steps) lane session) < 2
  -- where nothing is on its way to a receiver, and it has seen so, all that was accepted in the session was delivered
  pub quiet : (pair : ℕ) (side : Side) (queue : ℕ) → IsOrdinaryPair plan pair → IsQuiet (log_of plan memories steps) (ledger_of plan memories steps pair) pair side queue →
      IsDone plan (log_of plan memories steps) (ledger_of plan memories steps pair) (record { pair = pair; from = other_side side; queue = queue })
  -- the answers to the steps on a pair are those of the list without the other pairs' steps
  pub separate : (pair : ℕ) → made_on pair (log_of plan memories steps) ≡ log_of plan memories (steps_on pair steps)
  -- the ledger's counts are the log's: frames of a lane and a session, sessions of a pair, and the counters of a device
  pub tallies : (lane : LaneName) (session : ℕ) → tally_of (ledger_of plan memories steps lane.pair) lane.from lane.queue session
      ≡ record { accepted = length (accepted plan (log_of plan memories steps) lane session); delivered = length (delivered plan (log_of plan memories steps) lane session) }
  pub sessions : (pair : ℕ) → (ledger_of plan memories steps pair).link.session ≡ first_session plan pair + count_by (trains pair) (log_of plan memories steps)
  pub counters : (own : LaneName) → (dev_of (ledger_of plan memories steps own.pair) own.from own.queue).counters ≡ counters_in plan (log_of plan memories steps) own
  -- what was posted on a lane in the session, and then what is left to post, are the writes of its entries in order. So
  -- it is until its sender has forgotten the session.
  pub posted : (lane : LaneName) → has_forgotten (ledger_of plan memories steps lane.pair) lane.from ≡ false →
      posted_in (log_of plan memories steps) lane ++ (lane_of (ledger_of plan memories steps lane.pair) lane.from lane.queue).todo
      ≡ labels_from lane.queue 0 (lane_of (ledger_of plan memories steps lane.pair) lane.from lane.queue).sent
  -- what a side of an ordinary pair has in flight is what it posted while the link was up, less what landed and was
  -- dropped, in order
  pub in_flight : (pair : ℕ) (side : Side) → IsOrdinaryPair plan pair → (side_of (ledger_of plan memories steps pair) side).flight ≡ in_flight_by plan (log_of plan memories steps) pair side
  -- nothing is in flight while a link is down. What may land among all that a side has in flight may land in the part
  -- of its lane, by the kinds alone.
  pub none_while_down : (pair : ℕ) (side : Side) → is_down (ledger_of plan memories steps pair).link.state ≡ true → HasNothingInFlight (side_of (ledger_of plan memories steps pair) side)
  pub lane_part : (pair : ℕ) (side : Side) (queue place : ℕ) (label : Label) → slice_get (side_of (ledger_of plan memories steps pair) side).flight place ≡ Some label →
      may_land (map (order_of (pair_plan plan pair) side) (side_of (ledger_of plan memories steps pair) side).flight) place ≡ true →
      LandsInLane (pair_plan plan pair) queue (side_of (ledger_of plan memories steps pair) side).flight place label
  -- while both sides of an ordinary pair are up the law of the ring holds of each of its lanes
  pub ring : (lane : LaneName) → IsOrdinaryPair plan lane.pair → HasRing (layout_of (pair_plan plan lane.pair) lane.from lane.queue) →
      (side_of (ledger_of plan memories steps lane.pair) lane.from).up ≡ true → (side_of (ledger_of plan memories steps lane.pair) (other_side lane.from)).up ≡ true →
      HoldsRingLaw
      (shown_lane (sizes_of (pair_plan plan lane.pair) lane.from lane.queue) (ledger_of plan memories steps lane.pair) (ring_of plan memories steps lane) lane.from lane.queue)
  -- while the receiver's side is up it holds with the tail in the place of the index word, which is the tail while the
  -- sender's is up
  pub ring_received : (lane : LaneName) → IsOrdinaryPair plan lane.pair → HasRing (layout_of (pair_plan plan lane.pair) lane.from lane.queue) →
      (side_of (ledger_of plan memories steps lane.pair) (other_side lane.from)).up ≡ true →
      HoldsRingLaw
      (shown_lane (sizes_of (pair_plan plan lane.pair) lane.from lane.queue) (ledger_of plan memories steps lane.pair)
      (with_tail (sizes_of (pair_plan plan lane.pair) lane.from lane.queue) (lane_of (ledger_of plan memories steps lane.pair) lane.from lane.queue) (ring_of plan memories steps lane)) lane.from lane.queue)
  pub index_word : (lane : LaneName) → IsOrdinaryPair plan lane.pair → HasRing (layout_of (pair_plan plan lane.pair) lane.from lane.queue) →
      (side_of (ledger_of plan memories steps lane.pair) lane.from).up ≡ true →
      (ring_of plan memories steps lane).index_word ≡ tail_of (sizes_of (pair_plan plan lane.pair) lane.from lane.queue).entries (lane_of (ledger_of plan memories steps lane.pair) lane.from lane.queue).freed
  -- a side of an ordinary pair is up where its numbers agree with the peer's alone, and a queue is joined where all
  -- numbers do
  pub agreement : (pair : ℕ) (side : Side) → IsPairOf plan pair → IsOrdinaryPair plan pair → (side_of (ledger_of plan memories steps pair) side).up ≡ true →
      AgreesWith (side_plan (pair_plan plan pair) side) (side_plan (pair_plan plan pair) (other_side side))
  pub joined : (pair : ℕ) (side : Side) (queue : ℕ) → IsPairOf plan pair → IsOrdinaryPair plan pair → has_bit (side_of (ledger_of plan memories steps pair) side).joined queue ≡ true → Agree (pair_plan plan pair)
  -- until both sides of an ordinary pair have come up in a session no lane has an entry in it, and nothing of a lane is
  -- in flight
  pub before_both_up : (pair : ℕ) (side from : Side) (queue : ℕ) → IsOrdinaryPair plan pair → HasNotComeUp (ledger_of plan memories steps pair) side →
      HasNoEntry (ledger_of plan memories steps pair) from queue

-- Of the answer to one step more: it says nothing but what the log so far says
pub record IsRightAnswer (plan : Plan) (memories : Memories) (steps : List Step) (step : Step) (answer : Answer) : Type 0 where
  -- these refusals come if and only if the log says so; of those that several tests give, the earlier one in this order
  pub link_down : is_link_down answer ≡ (needs_link step && not (up_at plan (subject_of step) (log_of plan memories steps)))
  pub not_ready : is_not_ready answer ≡ lacks_queue plan (log_of plan memories steps) step
  pub closed : is_closed answer ≡ finds_closed plan (log_of plan memories steps) step
  pub too_long : is_too_long answer ≡ finds_long plan (log_of plan memories steps) step
  pub busy : is_busy_answer answer ≡ finds_busy plan (log_of plan memories steps) step
  pub stopped : IsOrdinaryPair plan (subject_of step) → is_stopped_answer answer ≡ finds_stopped plan (log_of plan memories steps) step
  pub again : IsOrdinaryPair plan (subject_of step) → is_again answer ≡ finds_full plan (log_of plan memories steps) step
  -- and so does what a look finds, which is never what no sender of the transport writes
  pub empty : IsOrdinaryPair plan (subject_of step) → is_empty_answer answer ≡ finds_nothing plan (log_of plan memories steps) step
  pub peer_down : IsOrdinaryPair plan (subject_of step) → is_peer_down answer ≡ finds_down plan (log_of plan memories steps) step
  pub likely : IsOrdinaryPair plan (subject_of step) → is_unlike answer ≡ false
  -- a copy and a clear are of the entry that was found last, part by part
  pub copied : (pair : ℕ) (side : Side) (queue : ℕ) → (step ≡ Copy pair side queue) ⊎ (step ≡ Clear pair side queue) →
      FitsLook (looked_in (log_of plan memories steps) pair side queue) (lane_to (ledger_of plan memories steps pair) side queue).left
      (length (delivered plan (log_of plan memories steps) (record { pair = pair; from = other_side side; queue = queue }) (ledger_of plan memories steps pair).link.session)) answer
  -- a check that brings a side up has found the peer's version, queues, windows and sizes, all landed in the session,
  -- and they agree
  pub up : (pair : ℕ) (side : Side) → IsOrdinaryPair plan pair → step ≡ Check pair side → answer ≡ Up →
      Agrees (log_of plan memories steps) pair side (side_plan (pair_plan plan pair) side) (side_plan (pair_plan plan pair) (other_side side))
  -- a refusal changes nothing, but for a device's count of them
  pub refused : (pair : ℕ) → is_made answer ≡ false →
      ledger_of plan memories (steps ++ step ∷ []) pair
      ≡ (if pair == subject_of step then after_refusal (ledger_of plan memories steps pair) step else ledger_of plan memories steps pair)

-- so it is of every plan that a script can declare, and of all steps that it permits
abbrev pub LawsHold : Type 0
LawsHold = (plan : Plan) (memories : Memories) (steps : List Step) → IsDeclared plan → AllByRecursion (IsPermitted plan) steps → KeepsPairsApart memories → HoldsLaws plan memories steps

abbrev pub AnswersAreRight : Type 0
AnswersAreRight = (plan : Plan) (memories : Memories) (steps : List Step) (step : Step) (answer : Answer) → IsDeclared plan → AllByRecursion (IsPermitted plan) (steps ++ step ∷ []) →
    GoesOn plan memories steps step answer → IsRightAnswer plan memories steps step answer
