-- What a call on a queue needs of the queue and of its pair, and what comes of it.
use Rattle.std.specs.Prelude.{ℕ, ◌≡◌, ◌≤◌, ◌⊎◌, Bool, false, true, IfOk, OnErr, OnOk, Result}
use Rattle.step_kinds.specs.Limits.{most_count}
use Rattle.step_kinds.specs.declared.plan.Counters.{Counters}
use Rattle.step_kinds.specs.declared.steps.Answer.{Answer}
use Rattle.step_kinds.specs.declared.steps.Answer.TheVariants.{OkNumber, ReadyFrame}
use Rattle.pair_model.specs.Device.{count_accepted, count_refused, stopped_after_send}
use Rattle.bridge_pair.specs.Bridge.{Bridge}
use Rattle.frame_ring.specs.Port.{PortState}
use Rattle.frame_ring.specs.PortView.{FitsRings, HasPagesIn, HasRoomIn}
use Rattle.queue_pair.specs.Gates.{is_joined}
use Rattle.queue_pair.specs.Queue.{QueueState}
use Rattle.fabric_rule.specs.Parts.{QueuePart, plain_bridge}
use Rattle.fabric_core.specs.Parts.{KeepsPort}
use Rattle.fabric_rule.specs.Turns.{QueueTurn}

-- before a begin or a look: the queue is one of this pair, its rings fit where it is joined, and the pages that its
-- port was promised are there
pub record CanBegin (queue : QueueState) (pair : Bridge) : Type 0 where
  pub plan : pair.plan ≡ queue.port.plan
  pub fits : is_joined queue pair ≡ true → FitsRings queue.port.plan
  pub pages : HasPagesIn queue.port pair

-- before a write is posted: the port has its room in flight too
pub record CanPost (port : PortState) (pair : Bridge) : Type 0 where
  pub plan : pair.plan ≡ port.plan
  pub room : HasRoomIn port pair
  pub pages : HasPagesIn port pair

-- the queue took this turn, and so did the bridge
pub record HasTurned (turn : QueueTurn) (result : Answer) (old new : QueuePart) (old_bridge new_bridge : Bridge) : Type 0 where
  pub answer : result ≡ turn.answer
  pub after : new ≡ turn.part
  pub bridge : new_bridge ≡ turn.bridge
  pub keeps : KeepsPort old.queue.port new.queue.port old_bridge new_bridge

-- the answers at which a queue may be out of memory: where an entry is begun
abbrev pub is_begun : Answer → Bool
is_begun (OkNumber number) = true
is_begun answer = false

-- and where one is found
abbrev pub is_found : Answer → Bool
is_found (ReadyFrame number len) = true
is_found answer = false

-- the same as statements
abbrev pub IsBegun : Answer → Type 0
IsBegun answer = is_begun answer ≡ true

abbrev pub IsFound : Answer → Type 0
IsFound answer = is_found answer ≡ true

-- where a device's frame is begun, or where its refusal is one more than can be counted
abbrev pub IsBegunOrUncounted : Counters → Answer → Type 0
IsBegunOrUncounted counters answer = IsBegun answer ⊎ (most_count ≤ counters.refused)

-- the queue took this turn, or nothing changed of it where it is out of memory, which is at these answers alone; of the
-- bridge only promises changed
pub record HasTurnedUnlessWanting {E : Type 0} (MayWant : Answer → Type 0) (turn : QueueTurn) (result : Result Answer E) (old new : QueuePart) (old_bridge new_bridge : Bridge) : Type 0 where
  pub answer : IfOk result (λ answer. answer ≡ turn.answer)
  pub after : OnOk result (new ≡ turn.part)
  pub err : OnErr result (new ≡ old)
  pub wants : OnErr result (MayWant turn.answer)
  pub plain : plain_bridge new_bridge ≡ plain_bridge old_bridge
  pub keeps : KeepsPort old.queue.port new.queue.port old_bridge new_bridge

-- A device's frame, as its calls count it

-- a device's frame is counted, once it was begun, which left this many entries free
abbrev pub counted_begun : QueuePart → ℕ → ℕ → QueuePart
counted_begun part free len =
    record part { flow = record part.flow { stopped = stopped_after_send part.flow free }; counters = count_accepted part.counters len }

-- and counted where it was refused
abbrev pub refused_once : QueuePart → QueuePart
refused_once part = record part { counters = count_refused part.counters }
