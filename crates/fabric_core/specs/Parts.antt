-- What a step on a queue needs, and what it keeps of all that was promised.
use Rattle.std.specs.Prelude.{◌≡◌, ℕ, ◌+◌, ◌<◌, true, false, Contains, List, [], length, slice_index_or}
use Rattle.std.specs.List.{sum_by}
use Rattle.step_kinds.specs.Bits.{has_bit}
use Rattle.step_kinds.specs.Sides.{other_side}
use Rattle.step_kinds.specs.declared.names.Side.{Side}
use Rattle.step_kinds.specs.declared.plan.DevPlan.{DevPlan}
use Rattle.step_kinds.specs.declared.plan.PairPlan.{PairPlan}
use Rattle.step_kinds.specs.declared.places.QueueStep.{QueueStep}
use Rattle.step_kinds.specs.declared.places.QueueStep.TheVariants.{Begin, Xbegin}
use Rattle.step_kinds.specs.declared.places.StepPlace.{StepPlace}
use Rattle.step_kinds.specs.declared.places.StepPlace.TheVariants.{OnQueue, OnBridge}
use Rattle.step_kinds.specs.declared.steps.Step.{Step}
use Rattle.bridge_pair.specs.Bridge.{Bridge, book_of, flight_of, pages_of, with_flight}
use Rattle.plan_numbers.specs.Memories.{WindowsFit}
use Rattle.frame_ring.specs.Port.{PortState, unused_of}
use Rattle.frame_ring.specs.PortView.{FitsRings, HasPagesIn}
use Rattle.hand_shake.specs.Checks.{check_answer}
use Rattle.hand_shake.specs.declared.CheckAnswer.TheVariants.{Up}
use Rattle.pair_model.specs.DeclaredPlans.{IsPayload, SameQueue}
use Rattle.pair_model.specs.Device.{no_counts}
use Rattle.pair_model.specs.Plans.{dev_plan, side_plan}
use Rattle.queue_pair.specs.Queue.{fresh_queue}
use Rattle.fabric_rule.specs.Parts.{PairState, QueuePart, no_queue, queue_of, queues_of}
use Rattle.fabric_rule.specs.Laws.{IsFreshQueue}
use Rattle.fabric_rule.specs.StandsFor.{IsOn}
use Rattle.fabric_core.specs.Promises.{CanTurn}
use Rattle.step_kinds.specs.Places.{step_place}

-- a queue before any step, whose device has these limits
abbrev pub fresh_part : PairPlan → Side → ℕ → ℕ → ℕ → QueuePart
fresh_part plan side queue stop start =
    record {
      queue = fresh_queue plan side queue;
      flow = record { stop = stop; start = start; stopped = false };
      counters = no_counts;
      accepted = [];
      delivered = [];
    }

-- what a step on a queue needs of what it carries
abbrev pub CanTurnQueue : List DevPlan → QueueStep → Type 0
CanTurnQueue devs (Begin frame) = 0 < length frame.now
CanTurnQueue devs (Xbegin dev dst kind payload) = (dev < length devs) × (length (dev_plan devs dev).address ≡ 6) × IsPayload dst.now kind payload.now
CanTurnQueue devs step = Unit {0}

-- What a call of a port keeps: its plan, side and queue, the pair's plan, each page that was promised, and the peer's
-- room. The side's room grows and shrinks with what the port hasn't used, and the pages that the port was promised are
-- there.
pub record KeepsPort (old new : PortState) (before after : Bridge) : Type 0 where
  pub same_plan : new.plan ≡ old.plan
  pub same_side : new.side ≡ old.side
  pub same_queue : new.queue ≡ old.queue
  pub plan : after.plan ≡ before.plan
  pub pages : (side : Side) (page : ℕ) → Contains (pages_of before side) page → Contains (pages_of after side) page
  pub room : (flight_of after old.side).spare + unused_of old ≡ (flight_of before old.side).spare + unused_of new
  pub peer_room : (flight_of after (other_side old.side)).spare ≡ (flight_of before (other_side old.side)).spare
  pub ready : HasPagesIn new after

-- what the ports of these queues were promised and haven't used
abbrev pub all_unused : List QueuePart → ℕ
all_unused queues = sum_by (λ (part : QueuePart). unused_of part.queue.port) queues

-- A queue of a pair: it stands at its own place, and the pages that it was promised are there.
pub record IsInPlace (bridge : Bridge) (side : Side) (queue : ℕ) (part : QueuePart) : Type 0 where
  pub its_plan : part.queue.port.plan ≡ bridge.plan
  pub its_side : part.queue.port.side ≡ side
  pub its_queue : part.queue.port.queue ≡ queue
  pub ready : HasPagesIn part.queue.port bridge

-- What is so of every pair: each side has all its queues, and room for just what their ports were promised and haven't
-- used.
pub record IsPairWhole (state : PairState) : Type 0 where
  pub all_queues : (side : Side) → length (queues_of state side) ≡ (side_plan state.bridge.plan side).queues
  pub queues : (side : Side) (queue : ℕ) → queue < (side_plan state.bridge.plan side).queues → IsInPlace state.bridge side queue (queue_of state side queue)
  pub room : (side : Side) → (flight_of state.bridge side).spare ≡ all_unused (queues_of state side)

-- a queue is joined on a side only if its rings fit, and a side that would come up has windows that fit
pub record BridgeAgrees (bridge : Bridge) : Type 0 where
  pub joined : (side : Side) (queue : ℕ) → has_bit (book_of bridge side).joined queue ≡ true → FitsRings bridge.plan
  pub up : (side : Side) → check_answer bridge side ≡ Up → WindowsFit bridge.plan side

-- what a step needs at its place
abbrev pub CanMakeAt : List DevPlan → Bridge → StepPlace → Type 0
CanMakeAt devs bridge (OnQueue side queue step) = (queue < (side_plan bridge.plan side).queues) × CanTurnQueue devs step
CanMakeAt devs bridge (OnBridge step) = CanTurn bridge step
CanMakeAt devs bridge place = Unit {0}

abbrev pub CanMake : List DevPlan → Bridge → Step → Type 0
CanMake devs bridge step = CanMakeAt devs bridge (step_place step)

-- no two devices of the pair are on one queue
abbrev pub AreAlone : List DevPlan → ℕ → Type 0
AreAlone devs k =
    (i j : ℕ) → i < length devs → j < length devs → (dev_plan devs i).pair ≡ k → SameQueue (dev_plan devs i) (dev_plan devs j) → i ≡ j

-- these are the limits of the device on the queue, if there is one
abbrev pub AreLimitsOn : List DevPlan → ℕ → Side → ℕ → ℕ → ℕ → Type 0
AreLimitsOn devs k side queue stop start =
    (d : ℕ) → d < length devs → IsOn (dev_plan devs d) k side queue → (stop ≡ (dev_plan devs d).stop) × (start ≡ (dev_plan devs d).start)

-- the queues of a side before any step
pub record AreFreshQueues (devs : List DevPlan) (plan : PairPlan) (k : ℕ) (side : Side) (parts : List QueuePart) : Type 0 where
  pub all_queues : length parts ≡ (side_plan plan side).queues
  pub queues : (queue : ℕ) → queue < (side_plan plan side).queues → IsFreshQueue devs plan k side queue (slice_index_or parts queue no_queue)

-- the queues of one side of a bridge, which has room for just what they haven't used
pub record CanForget (bridge : Bridge) (side : Side) (queues : List QueuePart) : Type 0 where
  pub its_plan : (k : ℕ) → k < length queues → (slice_index_or queues k no_queue).queue.port.plan ≡ bridge.plan
  pub its_side : (k : ℕ) → k < length queues → (slice_index_or queues k no_queue).queue.port.side ≡ side
  pub room : (flight_of bridge side).spare ≡ all_unused queues

-- a bridge that differs in the room of a side alone
pub record HasOtherRoom (old : Bridge) (side : Side) (new : Bridge) : Type 0 where
  pub rest : new ≡ with_flight old side (record { writes = (flight_of old side).writes; spare = (flight_of new side).spare })
