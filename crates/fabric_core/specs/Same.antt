-- Fabrics that no step can tell apart. Left out is what is promised, and what a port keeps of a frame that it has
-- posted whole. So are the limits of a device, which are the plan's, and the order in which sessions are counted.
use Rattle.std.specs.Prelude.{◌≡◌, ◌≢◌, ℕ, ◌<◌, List, length, slice_index_or}
use Rattle.step_kinds.specs.declared.names.Side.{Side}
use Rattle.step_kinds.specs.declared.plan.PairPlan.{PairPlan}
use Rattle.step_kinds.specs.declared.plan.Plan.{Plan}
use Rattle.step_kinds.specs.declared.steps.Step.{Step}
use Rattle.bridge_pair.specs.Same.{LandsAs}
use Rattle.queue_pair.specs.Same.{IsSameQueue}
use Rattle.fabric_rule.specs.Parts.{PairState, QueuePart, SessionCount, count_in, no_queue, plain_bridge, queues_of}
use Rattle.fabric_core.specs.Fabric.{FabricState, no_state}
use Rattle.fabric_core.specs.LogClauses.{HasMade}
use Rattle.fabric_core.specs.Sessions.{no_count}

-- each session has as many frames
abbrev pub AreSameCounts : List SessionCount → List SessionCount → Type 0
AreSameCounts counts other = (session : ℕ) → count_in counts session ≡ count_in other session

-- each session that is counted at a place of the one has as many frames in the other
abbrev pub AreSameWhereCounted : List SessionCount → List SessionCount → Type 0
AreSameWhereCounted counts other =
    (k : ℕ) → k < length counts → let session = (slice_index_or counts k no_count).session in count_in counts session ≡ count_in other session

pub record IsSamePart (part other : QueuePart) : Type 0 where
  pub queue : IsSameQueue part.queue other.queue
  pub stopped : part.flow.stopped ≡ other.flow.stopped
  pub counters : part.counters ≡ other.counters
  pub accepted : AreSameCounts part.accepted other.accepted
  pub delivered : AreSameCounts part.delivered other.delivered

pub record AreSameParts (parts others : List QueuePart) : Type 0 where
  pub all : length parts ≡ length others
  pub each : (queue : ℕ) → queue < length parts → IsSamePart (slice_index_or parts queue no_queue) (slice_index_or others queue no_queue)

pub record IsSamePair (pair other : PairState) : Type 0 where
  pub bridge : plain_bridge pair.bridge ≡ plain_bridge other.bridge
  pub queues : (side : Side) → AreSameParts (queues_of pair side) (queues_of other side)

-- no step tells the queues of both sides apart
abbrev pub HasSameQueues : PairState → PairState → Type 0
HasSameQueues pair other = (side : Side) → AreSameParts (queues_of pair side) (queues_of other side)

-- the write at a place of those that a side has in flight may land, and then no step tells the pair apart from another
pub record LandsAsPair (pair : PairState) (side : Side) (place : ℕ) (other : PairState) : Type 0 where
  pub bridge : LandsAs pair.bridge side place other.bridge
  pub queues : HasSameQueues pair other

-- no step tells the pairs at each place apart, but for one place
abbrev pub AreSameBut : List PairState → List PairState → ℕ → Type 0
AreSameBut pairs others but = (k : ℕ) → k < length pairs → k ≢ but → IsSamePair (slice_index_or pairs k no_state) (slice_index_or others k no_state)

pub record AreSamePairs (pairs others : List PairState) : Type 0 where
  pub all : length pairs ≡ length others
  pub each : (k : ℕ) → k < length pairs → IsSamePair (slice_index_or pairs k no_state) (slice_index_or others k no_state)

pub record IsSameFabric (fabric other : FabricState) : Type 0 where
  pub devs : fabric.devs ≡ other.devs
  pub pairs : AreSamePairs fabric.pairs other.pairs

-- the plan of a pair
abbrev pub plan_at : PairState → PairPlan
plan_at pair = pair.bridge.plan

-- two queues at one place: of one plan, side and number
pub record AreOfOnePlace (part other : QueuePart) : Type 0 where
  pub plan : part.queue.port.plan ≡ other.queue.port.plan
  pub side : part.queue.port.side ≡ other.queue.port.side
  pub queue : part.queue.port.queue ≡ other.queue.port.queue

-- so are all queues of two sides
pub record AreOfOneSide (parts others : List QueuePart) : Type 0 where
  pub all : length parts ≡ length others
  pub each : (queue : ℕ) → queue < length parts → AreOfOnePlace (slice_index_or parts queue no_queue) (slice_index_or others queue no_queue)

-- Two fabrics are the same, and the one has made some steps of a plan. If the other has made any steps of that plan, it
-- has made these too.
abbrev pub SameHasMadeSame : Type 0
SameHasMadeSame = (plan : Plan) (steps own : List Step) (fabric other : FabricState) →
    IsSameFabric fabric other → HasMade plan steps fabric → HasMade plan own other → HasMade plan steps other

-- Fabrics that have made one list of steps are the same.
abbrev pub OneListMakesSame : Type 0
OneListMakesSame = (plan : Plan) (steps : List Step) (fabric other : FabricState) →
    HasMade plan steps fabric → HasMade plan steps other → IsSameFabric fabric other
