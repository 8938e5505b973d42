-- Facts of the states that a pair can be in, after every log.
use Rattle.std.specs.Prelude.{◌≡◌, ◌≢◌, ℕ, ◌+◌, ◌<◌, ◌≤◌, true, false, List, [], length, min, slice_index_or}
use Rattle.std.specs.List.{AllByRecursion}
use Rattle.step_kinds.specs.Bits.{has_bit}
use Rattle.step_kinds.specs.Sides.{other_side}
use Rattle.step_kinds.specs.declared.names.LaneName.{LaneName}
use Rattle.step_kinds.specs.declared.names.Side.{Side}
use Rattle.step_kinds.specs.declared.plan.PairPlan.{PairPlan}
use Rattle.step_kinds.specs.declared.plan.Plan.{Plan}
use Rattle.step_kinds.specs.declared.plan.SidePlan.{SidePlan}
use Rattle.step_kinds.specs.declared.steps.Label.{Label}
use Rattle.step_kinds.specs.declared.steps.Label.TheVariants.{Chunk, Len, Ver, Flag, Down, Bell, Index, Pad, Raw}
use Rattle.step_kinds.specs.declared.steps.Step.{Step}
use Rattle.lane_model.specs.Lane.{Entry, GoesDown, bytes_of, chunks_in}
use Rattle.lane_model.specs.Law.{entry_among}
use Rattle.ledger_model.specs.Labels.{writes_among, indexes_among}
use Rattle.ledger_model.specs.Ledger.{LanePart, SidePart, PairPart, side_of, lane_of, lane_to, dev_of, begun_in, entry_in}
use Rattle.ledger_model.specs.LinkSteps.{fresh_lane}
use Rattle.ledger_model.specs.Log.{Memories, ledger_of}
use Rattle.ledger_model.specs.Receiving.{is_idle, is_copying}
use Rattle.ledger_model.specs.Sending.{is_busy}
use Rattle.pair_model.specs.DeclaredPlans.{IsPair, Agree, IsPermitted}
use Rattle.pair_model.specs.Link.{is_down}
use Rattle.pair_model.specs.Plans.{pair_plan, side_plan}
use Rattle.pair_model.specs.Sizes.{Sizes, sizes_of}
use Rattle.ledger_laws.specs.Laws.{IsOrdinaryOn, IsOrdinaryPair, has_forgotten}

-- The entries of a lane

-- each entry of a list has this many bytes at most
abbrev pub AreWithin : ℕ → List Entry → Type 0
AreWithin largest entries = (n : ℕ) → n < length entries → length (bytes_of (slice_index_or entries n GoesDown)) ≤ largest

-- the entries that were begun and those that wait fit a slot each, and where the ring has slots one more stays free
pub record FitTheRing (sizes : Sizes) (lane : LanePart) : Type 0 where
  pub begun : AreWithin sizes.largest lane.sent
  pub waiting : AreWithin sizes.largest lane.waiting
  pub one_free : 0 < sizes.entries → begun_in lane + 1 ≤ lane.freed + sizes.entries

abbrev pub EntriesFitTheRing : Type 0
EntriesFitTheRing = (plan : Plan) (memories : Memories) (steps : List Step) (name : LaneName) → IsOrdinaryPair plan name.pair →
    FitTheRing (sizes_of (pair_plan plan name.pair) name.from name.queue) (lane_of (ledger_of plan memories steps name.pair) name.from name.queue)

-- A session that isn't up at both sides

-- a side has not come up in the session, which may be lost, and hasn't forgotten it yet
pub record HasNotComeUp (now : PairPart) (side : Side) : Type 0 where
  pub not_forgotten : has_forgotten now side ≡ false
  pub not_up : (side_of now side).up ≡ false

-- until both sides are up no lane has an entry, and nothing of a lane is in flight, either way
pub record HasNoEntry (now : PairPart) (from : Side) (queue : ℕ) : Type 0 where
  pub fresh : lane_of now from queue ≡ fresh_lane
  pub no_writes : writes_among queue (side_of now from).flight ≡ []
  pub no_indexes : indexes_among queue (side_of now (other_side from)).flight ≡ []

abbrev pub NoEntryBeforeBothUp : Type 0
NoEntryBeforeBothUp = (plan : Plan) (memories : Memories) (steps : List Step) (pair : ℕ) (side from : Side) (queue : ℕ) →
    IsOrdinaryPair plan pair → AllByRecursion (IsOrdinaryOn pair) steps → HasNotComeUp (ledger_of plan memories steps pair) side →
    HasNoEntry (ledger_of plan memories steps pair) from queue

-- A link that is down

-- nothing that a side posted is in flight, and no bytes of raw writes are kept
pub record HasNothingInFlight (own : SidePart) : Type 0 where
  pub none_in_flight : own.flight ≡ []
  pub none_kept : own.poked ≡ []

abbrev pub NothingInFlightWhileDown : Type 0
NothingInFlightWhileDown = (plan : Plan) (memories : Memories) (steps : List Step) (pair : ℕ) (side : Side) →
    is_down (ledger_of plan memories steps pair).link.state ≡ true → HasNothingInFlight (side_of (ledger_of plan memories steps pair) side)

-- Agreement

-- what a side has seen of its peer when its check was answered `up`
pub record AgreesWith (own peer : SidePlan) : Type 0 where
  pub versions : (4 ≤ own.version) × (4 ≤ peer.version)
  pub queues : peer.queues ≡ own.queues
  pub windows : peer.windows ≡ own.windows
  pub size_fits : peer.size ≤ own.cap

-- a side is up where its numbers agree with the peer's alone
abbrev pub UpSideAgrees : Type 0
UpSideAgrees = (plan : Plan) (memories : Memories) (steps : List Step) (pair : ℕ) (side : Side) →
    IsPair (pair_plan plan pair) → AllByRecursion (IsOrdinaryOn pair) steps → (side_of (ledger_of plan memories steps pair) side).up ≡ true →
    AgreesWith (side_plan (pair_plan plan pair) side) (side_plan (pair_plan plan pair) (other_side side))

-- a queue is joined where all numbers of the two sides agree alone, those of both sides' windows among them
abbrev pub JoinedMeansAgreement : Type 0
JoinedMeansAgreement = (plan : Plan) (memories : Memories) (steps : List Step) (pair : ℕ) (side : Side) (queue : ℕ) →
    IsPair (pair_plan plan pair) → AllByRecursion (IsOrdinaryOn pair) steps → has_bit (side_of (ledger_of plan memories steps pair) side).joined queue ≡ true →
    Agree (pair_plan plan pair)

-- Labels and the entries that they are of

-- a label is of one of these entries: of one of its chunks, and of flags that are the entry's
abbrev pub IsOfEntry : List Entry → Label → Type 0
IsOfEntry sent (Chunk q n part) = (n < length sent) × (part < chunks_in (length (bytes_of (entry_among sent n))))
IsOfEntry sent (Len q n) = n < length sent
IsOfEntry sent (Ver q n) = n < length sent
IsOfEntry sent (Flag q n) = (n < length sent) × (entry_among sent n ≢ GoesDown)
IsOfEntry sent (Down q n) = (n < length sent) × (entry_among sent n ≡ GoesDown)
IsOfEntry sent label = Unit {0}

-- a label that a side posted is of an entry of the lane that the side sends on the label's queue. An index write is of
-- an entry that was acknowledged, of the lane that the side receives there.
abbrev pub IsOfLane : PairPart → Side → Label → Type 0
IsOfLane now side (Chunk q n part) = IsOfEntry (lane_of now side q).sent (Chunk q n part)
IsOfLane now side (Len q n) = IsOfEntry (lane_of now side q).sent (Len q n)
IsOfLane now side (Ver q n) = IsOfEntry (lane_of now side q).sent (Ver q n)
IsOfLane now side (Flag q n) = IsOfEntry (lane_of now side q).sent (Flag q n)
IsOfLane now side (Down q n) = IsOfEntry (lane_of now side q).sent (Down q n)
IsOfLane now side (Index q n) = n < (lane_of now (other_side side) q).acked
IsOfLane now side label = Unit {0}

-- a label is one that the sender of a queue's lane posts
abbrev pub IsOnQueue : ℕ → Label → Type 0
IsOnQueue q (Chunk p n part) = p ≡ q
IsOnQueue q (Len p n) = p ≡ q
IsOnQueue q (Ver p n) = p ≡ q
IsOnQueue q (Flag p n) = p ≡ q
IsOnQueue q (Down p n) = p ≡ q
IsOnQueue q (Bell p) = p ≡ q
IsOnQueue q label = ⊥

-- each label in flight from a side, and each that a lane of it has left to post
pub record HasLabelsOfEntries (now : PairPart) (side : Side) : Type 0 where
  pub in_flight : AllByRecursion (IsOfLane now side) (side_of now side).flight
  pub to_post : (queue : ℕ) → AllByRecursion (λ label. IsOnQueue queue label × IsOfEntry (lane_of now side queue).sent label) (lane_of now side queue).todo

abbrev pub LabelsAreOfEntries : Type 0
LabelsAreOfEntries = (plan : Plan) (memories : Memories) (steps : List Step) (pair : ℕ) (side : Side) → IsOrdinaryPair plan pair →
    HasLabelsOfEntries (ledger_of plan memories steps pair) side

-- a label that a side of this pair can post by steps that a plan permits. It is on one of the side's queues, or it
-- writes one of the sixteen scratchpads, or, on a raw pair, bytes in a window. Both sides have that window, and the
-- bytes lie within its size and what the peer's memory gives.
abbrev pub IsPostable : PairPlan → Side → Label → Type 0
IsPostable plan side (Chunk q n part) = q < (side_plan plan side).queues
IsPostable plan side (Len q n) = q < (side_plan plan side).queues
IsPostable plan side (Ver q n) = q < (side_plan plan side).queues
IsPostable plan side (Flag q n) = q < (side_plan plan side).queues
IsPostable plan side (Down q n) = q < (side_plan plan side).queues
IsPostable plan side (Bell q) = q < (side_plan plan side).queues
IsPostable plan side (Index q n) = q < (side_plan plan side).queues
IsPostable plan side (Pad i value) = i < 16
IsPostable plan side (Raw window offset len) =
    (plan.raw ≡ true) × ((window < plan.a.windows) × (window < plan.b.windows)) × (offset + len ≤ min (side_plan plan side).size (side_plan plan (other_side side)).cap)

abbrev pub LabelsArePostable : Type 0
LabelsArePostable = (plan : Plan) (memories : Memories) (steps : List Step) (pair : ℕ) (side : Side) →
    IsPair (pair_plan plan pair) → AllByRecursion (IsPermitted plan) steps →
    AllByRecursion (IsPostable (pair_plan plan pair) side) (side_of (ledger_of plan memories steps pair) side).flight

-- Queues that are joined, and what goes on there

-- a queue is joined only on a side that is up
abbrev pub JoinedSideIsUp : Type 0
JoinedSideIsUp = (plan : Plan) (memories : Memories) (steps : List Step) (pair : ℕ) (side : Side) (queue : ℕ) →
    has_bit (side_of (ledger_of plan memories steps pair) side).joined queue ≡ true → (side_of (ledger_of plan memories steps pair) side).up ≡ true

-- a device is stopped only if its queue is joined on its side
abbrev pub StoppedDeviceIsJoined : Type 0
StoppedDeviceIsJoined = (plan : Plan) (memories : Memories) (steps : List Step) (pair : ℕ) (side : Side) (queue : ℕ) →
    (dev_of (ledger_of plan memories steps pair) side queue).stopped ≡ true → has_bit (side_of (ledger_of plan memories steps pair) side).joined queue ≡ true

-- a lane has something left to post only if its queue is joined at its sender
abbrev pub BusySenderIsJoined : Type 0
BusySenderIsJoined = (plan : Plan) (memories : Memories) (steps : List Step) (pair : ℕ) (side : Side) (queue : ℕ) → IsOrdinaryPair plan pair →
    is_busy (lane_of (ledger_of plan memories steps pair) side queue) ≡ true → has_bit (side_of (ledger_of plan memories steps pair) side).joined queue ≡ true

-- a receiver has an entry in hand only if the queue is joined there
abbrev pub BusyReceiverIsJoined : Type 0
BusyReceiverIsJoined = (plan : Plan) (memories : Memories) (steps : List Step) (pair : ℕ) (side : Side) (queue : ℕ) → IsOrdinaryPair plan pair →
    is_idle (lane_to (ledger_of plan memories steps pair) side queue).phase ≡ false → has_bit (side_of (ledger_of plan memories steps pair) side).joined queue ≡ true

-- The receiver's next entry

-- the entries that were given back were begun
abbrev pub FreedWereBegun : Type 0
FreedWereBegun = (plan : Plan) (memories : Memories) (steps : List Step) (pair : ℕ) (from : Side) (queue : ℕ) → IsOrdinaryPair plan pair →
    (lane_of (ledger_of plan memories steps pair) from queue).freed ≤ length (lane_of (ledger_of plan memories steps pair) from queue).sent

-- A receiver that copies an entry knows its length. While a joined receiver is idle and an entry is waiting, the bytes
-- gathered plus that entry fit one frame.
pub record KnowsItsFrame (most queue joined : ℕ) (lane : LanePart) : Type 0 where
  pub len_is : is_copying lane.phase ≡ true → lane.len ≡ length (bytes_of (entry_in lane lane.got))
  pub fits : has_bit joined queue ≡ true → is_idle lane.phase ≡ true → lane.got < length lane.sent → length lane.gathered + length (bytes_of (entry_in lane lane.got)) ≤ most

abbrev pub ReceiverKnowsItsFrame : Type 0
ReceiverKnowsItsFrame = (plan : Plan) (memories : Memories) (steps : List Step) (name : LaneName) → IsOrdinaryPair plan name.pair →
    KnowsItsFrame (sizes_of (pair_plan plan name.pair) name.from name.queue).most name.queue (side_of (ledger_of plan memories steps name.pair) (other_side name.from)).joined
    (lane_of (ledger_of plan memories steps name.pair) name.from name.queue)
