-- What the driver of a queue is told by a log: the answers to its own side's steps, and when a session began. With
-- whether the link is up, that says whether a step will be refused as not ready, closed, too long or busy.
use Rattle.std.specs.Prelude.{◌≡◌, ℕ, ◌+◌, ◌-◌, ◌==◌, Bool, true, false, ◌&&◌, not, List, [], ◌∷◌, length, nat_lt, slice_index_or, sum_by, if◌then◌else◌}
use Rattle.std.specs.List.{flat_map, fold}
use Rattle.step_kinds.specs.Sides.{other_side, same_side}
use Rattle.step_kinds.specs.Subject.{subject_of}
use Rattle.step_kinds.specs.declared.names.LaneName.{LaneName}
use Rattle.step_kinds.specs.declared.names.Side.{Side}
use Rattle.step_kinds.specs.declared.plan.Plan.{Plan}
use Rattle.step_kinds.specs.declared.steps.Answer.{Answer}
use Rattle.step_kinds.specs.declared.steps.Answer.TheVariants.{Ok as Done, OkSession, OkNumber, Joined, NotReady, Closed, TooLong, Busy, Posted, Landed, Empty, PeerDown, ReadyFrame, Cleared, Acked}
use Rattle.step_kinds.specs.declared.steps.Label.TheVariants.{Flag, Down}
use Rattle.step_kinds.specs.declared.steps.Step.{Step}
use Rattle.step_kinds.specs.declared.steps.Step.TheVariants.{Train, Clean, Ready, Join, Begin, QpDown, Xbegin, Post, Land, Look, Clear, Ack}
use Rattle.lane_model.specs.Lane.{Entry, GoesDown, writes_of}
use Rattle.ledger_model.specs.Log.{Answered, Memories, in_this_session, is_on, log_of, up_at}
use Rattle.ledger_model.specs.Pieces.{pieces_of}
use Rattle.pair_model.specs.Ethernet.{ethernet_frame}
use Rattle.pair_model.specs.Plans.{dev_plan, pair_plan, side_plan}
use Rattle.pair_model.specs.Sizes.{sizes_of}
use Rattle.ledger_laws.specs.Laws.{GoesOn, IsOrdinaryPair}

-- What the driver of a side's queue knows: whether the side has it ready, joined and closed, and how many writes of its
-- entries are left to post. It also knows whether an entry that the side received isn't given back yet, and how many
-- entries the side cleared. The queue is named as the lane on which the side sends.
pub record Driver : Type 0 where
  pub ready : Bool
  pub joined : Bool
  pub closed : Bool
  pub left : ℕ
  pub in_hand : Bool
  pub cleared : ℕ

-- how many writes entries have: their chunks, and the four that follow these
abbrev pub writes_in : List Entry → ℕ
writes_in entries = sum_by (λ entry. length (writes_of 0 entry)) entries

-- how many writes a frame has that the lane's side begins
abbrev pub writes_of_frame : Plan → LaneName → List ℕ → ℕ
writes_of_frame plan own frame = writes_in (pieces_of (sizes_of (pair_plan plan own.pair) own.from own.queue).largest frame)

-- a driver whose side forgets its session, and one whose pair begins another
abbrev pub forgets : Driver → Driver
forgets now = record now { ready = false; joined = false; closed = false; left = 0; in_hand = false }

abbrev pub begins_anew : Driver → Driver
begins_anew now = record now { left = 0; in_hand = false; cleared = 0 }

-- what the driver knows after an entry of the log
abbrev pub driver_next : Plan → LaneName → Driver → Answered → Driver
driver_next plan own now made = told made.step made.answer where
  told : Step → Answer → Driver
  told (Train p) (OkSession session) = if p == own.pair then begins_anew now else now
  told (Clean p side) Done = if (p == own.pair) && same_side side own.from then forgets now else now
  told (Ready p side queue) Done = if is_on own p side queue then record now { ready = true } else now
  told (Join p side queue) Joined = if is_on own p side queue then record now { joined = true } else now
  told (Begin p side queue frame) (OkNumber n) = if is_on own p side queue then record now { left = writes_of_frame plan own frame } else now
  told (Xbegin p side queue dev dst kind payload) (OkNumber n) =
      if is_on own p side queue then record now { left = writes_of_frame plan own (ethernet_frame dst (dev_plan plan.devs dev).address kind payload) } else now
  told (QpDown p side queue) (OkNumber n) = if is_on own p side queue then record now { left = writes_in (GoesDown ∷ []); closed = true } else now
  told (Post p side queue) (Posted label) = if is_on own p side queue then record now { left = now.left - 1 } else now
  told (Look p side queue) PeerDown = if is_on own p side queue then record now { closed = true } else now
  told (Look p side queue) (ReadyFrame n len) = if is_on own p side queue then record now { in_hand = true } else now
  told (Clear p side queue) (Cleared n) = if is_on own p side queue then record now { cleared = now.cleared + 1 } else now
  told (Ack p side queue) (Acked n) = if is_on own p side queue then record now { in_hand = false } else now
  told step answer = now

-- what it knows at first: on a pair that is declared up the side's queues are ready and joined
abbrev pub driver_start : Plan → LaneName → Driver
driver_start plan own =
    let among = (pair_plan plan own.pair).up && nat_lt own.queue (side_plan (pair_plan plan own.pair) own.from).queues in
    record { ready = among; joined = among; closed = false; left = 0; in_hand = false; cleared = 0 }

-- what it knows after a log
abbrev pub driver_after : Plan → List Answered → LaneName → Driver
driver_after plan log own = fold (driver_next plan own) (driver_start plan own) log

-- Refusals, each if and only if the log says so

abbrev pub is_not_ready : Answer → Bool
is_not_ready NotReady = true
is_not_ready answer = false

abbrev pub is_closed : Answer → Bool
is_closed Closed = true
is_closed answer = false

abbrev pub is_busy_answer : Answer → Bool
is_busy_answer Busy = true
is_busy_answer answer = false

-- a queue, as the lane on which its side sends
abbrev pub queue_named : ℕ → Side → ℕ → LaneName
queue_named pair side queue = record { pair = pair; from = side; queue = queue }

-- the queue isn't joined, if the link is up if the step needs that; of a join, it isn't ready
abbrev pub lacks_queue : Plan → List Answered → Step → Bool
lacks_queue plan log (Begin pair side queue frame) = up_at plan pair log && not (driver_after plan log (queue_named pair side queue)).joined
lacks_queue plan log (QpDown pair side queue) = up_at plan pair log && not (driver_after plan log (queue_named pair side queue)).joined
lacks_queue plan log (Xbegin pair side queue dev dst kind payload) = up_at plan pair log && not (driver_after plan log (queue_named pair side queue)).joined
lacks_queue plan log (Look pair side queue) = not (driver_after plan log (queue_named pair side queue)).joined
lacks_queue plan log (Join pair side queue) = up_at plan pair log && not (driver_after plan log (queue_named pair side queue)).ready
lacks_queue plan log step = false

-- the queue is joined and closed, and the link is up if the step needs that
abbrev pub is_shut : Driver → Bool
is_shut driver = driver.joined && driver.closed

abbrev pub finds_closed : Plan → List Answered → Step → Bool
finds_closed plan log (Begin pair side queue frame) = up_at plan pair log && is_shut (driver_after plan log (queue_named pair side queue))
finds_closed plan log (QpDown pair side queue) = up_at plan pair log && is_shut (driver_after plan log (queue_named pair side queue))
finds_closed plan log (Xbegin pair side queue dev dst kind payload) = up_at plan pair log && is_shut (driver_after plan log (queue_named pair side queue))
finds_closed plan log (Look pair side queue) = is_shut (driver_after plan log (queue_named pair side queue))
finds_closed plan log step = false

-- the side may send on the queue; the frame isn't longer than any may be; something that the side began is left to post
abbrev pub may_begin : Plan → List Answered → LaneName → Bool
may_begin plan log own = up_at plan own.pair log && ((driver_after plan log own).joined && not (driver_after plan log own).closed)

abbrev pub fits_queue : Plan → LaneName → List ℕ → Bool
fits_queue plan own frame = not (nat_lt (sizes_of (pair_plan plan own.pair) own.from own.queue).most (length frame))

abbrev pub has_left : Plan → List Answered → LaneName → Bool
has_left plan log own = nat_lt 0 (driver_after plan log own).left

abbrev pub finds_busy : Plan → List Answered → Step → Bool
finds_busy plan log (Begin pair side queue frame) =
    let own = queue_named pair side queue in
    may_begin plan log own && (fits_queue plan own frame && has_left plan log own)
finds_busy plan log (QpDown pair side queue) =
    let own = queue_named pair side queue in
    may_begin plan log own && has_left plan log own
finds_busy plan log (Xbegin pair side queue dev dst kind payload) =
    let own = queue_named pair side queue in
    may_begin plan log own && (fits_queue plan own (ethernet_frame dst (dev_plan plan.devs dev).address kind payload) && has_left plan log own)
finds_busy plan log step = false

-- the side may send on the queue, and the frame is longer than any may be
abbrev pub is_too_long : Answer → Bool
is_too_long (TooLong len most) = true
is_too_long answer = false

abbrev pub finds_long : Plan → List Answered → Step → Bool
finds_long plan log (Begin pair side queue frame) =
    let own = queue_named pair side queue in
    may_begin plan log own && not (fits_queue plan own frame)
finds_long plan log (Xbegin pair side queue dev dst kind payload) =
    let own = queue_named pair side queue in
    may_begin plan log own && not (fits_queue plan own (ethernet_frame dst (dev_plan plan.devs dev).address kind payload))
finds_long plan log step = false

-- `notready`, `closed`, `toolong` and `busy` come exactly there, before whatever stands after them in the order of the
-- step's tests
abbrev pub RefusedAs : (Answer → Bool) → (Plan → List Answered → Step → Bool) → Type 0
RefusedAs is_refusal foreseen = (plan : Plan) (memories : Memories) (steps : List Step) (step : Step) (answer : Answer) → GoesOn plan memories steps step answer →
    is_refusal answer ≡ foreseen plan (log_of plan memories steps) step

abbrev pub NotReadyWhereNotJoined : Type 0
NotReadyWhereNotJoined = RefusedAs is_not_ready lacks_queue

abbrev pub ClosedWhereClosed : Type 0
ClosedWhereClosed = RefusedAs is_closed finds_closed

abbrev pub TooLongWhereFrameIsLong : Type 0
TooLongWhereFrameIsLong = RefusedAs is_too_long finds_long

abbrev pub BusyWhereLeftToPost : Type 0
BusyWhereLeftToPost = RefusedAs is_busy_answer finds_busy

-- What a receiver finds

-- the flags of an entry that this lands on a lane: whether it is a link-down entry
abbrev pub flags_in : LaneName → Answered → List Bool
flags_in lane made = landed made.step made.answer where
  landed : Step → Answer → List Bool
  landed (Land p side place) (Landed (Flag queue n)) = if is_on lane p side queue then false ∷ [] else []
  landed (Land p side place) (Landed (Down queue n)) = if is_on lane p side queue then true ∷ [] else []
  landed step answer = []

-- the flags that landed on a lane since its pair's session began, in order
abbrev pub flags_landed : List Answered → LaneName → List Bool
flags_landed log lane = flat_map (flags_in lane) (in_this_session lane.pair log)

-- the lane that a side receives on a queue
abbrev pub lane_received : ℕ → Side → ℕ → LaneName
lane_received pair side queue = record { pair = pair; from = other_side side; queue = queue }

abbrev pub is_empty_answer : Answer → Bool
is_empty_answer Empty = true
is_empty_answer answer = false

abbrev pub is_peer_down : Answer → Bool
is_peer_down PeerDown = true
is_peer_down answer = false

-- the side may look on the queue, and holds no entry
abbrev pub may_look : Driver → Bool
may_look driver = driver.joined && (not driver.closed && not driver.in_hand)

-- as many entries have landed flags as the side cleared
abbrev pub has_none : List Bool → Driver → Bool
has_none flags driver = length flags == driver.cleared

abbrev pub finds_nothing : Plan → List Answered → Step → Bool
finds_nothing plan log (Look pair side queue) =
    let driver = driver_after plan log (queue_named pair side queue) in
    may_look driver && has_none (flags_landed log (lane_received pair side queue)) driver
finds_nothing plan log step = false

-- more have, and those of the next one are of a link-down entry
abbrev pub finds_down : Plan → List Answered → Step → Bool
finds_down plan log (Look pair side queue) =
    let driver = driver_after plan log (queue_named pair side queue) in
    let flags = flags_landed log (lane_received pair side queue) in
    may_look driver && (not (has_none flags driver) && slice_index_or flags driver.cleared false)
finds_down plan log step = false

-- `empty` and `peerdown` come exactly there
abbrev pub FoundAs : (Answer → Bool) → (Plan → List Answered → Step → Bool) → Type 0
FoundAs is_found foreseen = (plan : Plan) (memories : Memories) (steps : List Step) (step : Step) (answer : Answer) →
    IsOrdinaryPair plan (subject_of step) → GoesOn plan memories steps step answer → is_found answer ≡ foreseen plan (log_of plan memories steps) step

abbrev pub EmptyWhereNothingLanded : Type 0
EmptyWhereNothingLanded = FoundAs is_empty_answer finds_nothing

abbrev pub PeerDownWhereDownLanded : Type 0
PeerDownWhereDownLanded = FoundAs is_peer_down finds_down
