-- Where a port's receiver stands after each call, and that the port is of the same queue.
use Rattle.std.proofs.Common.{◌≡◌, ℕ, ◌+◌, Bool, true, false, not, List, [], refl, if◌then◌else◌}
use Rattle.step_kinds.specs.declared.lanes.LaneCopy.{LaneCopy}
use Rattle.step_kinds.specs.declared.lanes.LaneCopy.TheVariants.{Part, Whole, OutOfTurn as NotCopying}
use Rattle.lane_model.specs.Tests.{is_cleared, is_copied, is_copying, is_idle}
use Rattle.lane_model.specs.declared.Phase.TheVariants.{Idle, Copied, Cleared}
use Rattle.bridge_pair.specs.Bridge.{Bridge}
use Rattle.pair_model.specs.Headers.{Found, NoEntry, ALinkDownEntry, AnotherVersion, TooManyBytes, AnEntry}
use Rattle.frame_ring.specs.Calls.{port_after_ack, port_after_clear, port_after_copy, port_after_look, port_after_post, port_copy_answer, entry_found, found_seen, gathered_next, look_found, more_entries, more_parts, part_answer, part_copied}
use Rattle.frame_ring.specs.Port.{PortState, Receiving, with_receiving}
use Rattle.frame_ring.specs.declared.RingLook.TheVariants.{OutOfTurn as RingOutOfTurn}
use Rattle.queue_pair.specs.Gates.{queue_after_look, after_look_answer, answer_of_look, is_joined, look_answer}
use Rattle.queue_pair.specs.Queue.{QueueState}
use Rattle.queue_pair.specs.declared.LookAnswer.{LookAnswer}
use Rattle.queue_pair.specs.declared.LookAnswer.TheVariants.{Ready, PeerDown, NotReady as NotJoined, Closed as QueueClosed}
use Rattle.fabric_core.proofs.PromisesOfQueues.{SamePlace, same_place}

-- of a receiver that goes on where a test says so, or stays
place_if : (port : PortState) (receiving : Receiving) (test : Bool) → SamePlace (if test then with_receiving port receiving else port) port
place_if port receiving true = record { same_plan = refl; same_side = refl; same_queue = refl }
place_if port receiving false = same_place port

goes_on_if : (port : PortState) (receiving : Receiving) (test : Bool) → is_copying receiving.phase ≡ false
    → is_copying (if test then with_receiving port receiving else port).receiving.phase ≡ true → is_copying port.receiving.phase ≡ true
goes_on_if port receiving true other later = absurd (cc (other, later))
goes_on_if port receiving false other later = later

-- Copying

parts : Receiving → List ℕ → Bool → Bool → Receiving
parts receiving gathered more others =
    if more then record receiving { part = receiving.part + 1; gathered = gathered }
    else if others then record receiving { got = receiving.got + 1; phase = Copied; gathered = gathered }
    else record receiving { got = receiving.got + 1; phase = Copied; gathered = []; done = receiving.done + 1 }

-- A copy leaves a port with the plan, side and queue that it had.
pub copy_place : (port : PortState) (bridge : Bridge) → SamePlace (port_after_copy port bridge) port
copy_place port bridge = place_if port (part_copied port.receiving (gathered_next port bridge)) (is_copying port.receiving.phase)

-- no call but a look begins to copy
pub copy_goes_on : (port : PortState) (bridge : Bridge) → is_copying (port_after_copy port bridge).receiving.phase ≡ true → is_copying port.receiving.phase ≡ true
copy_goes_on port bridge = at_test (is_copying port.receiving.phase) refl where
  at_test : (copying : Bool) → is_copying port.receiving.phase ≡ copying
      → is_copying (if copying then with_receiving port (part_copied port.receiving (gathered_next port bridge)) else port).receiving.phase ≡ true
      → is_copying port.receiving.phase ≡ true
  at_test true is later = is
  at_test false is later = later

-- a frame is whole as its last entry was copied

-- A copy that is answered with a whole frame is one by a receiver that was copying an entry.
pub whole_copying : (port : PortState) (bridge : Bridge) (number : ℕ) (frame : List ℕ) → port_copy_answer port bridge ≡ Whole number frame → is_copying port.receiving.phase ≡ true
whole_copying port bridge number frame = at_test (is_copying port.receiving.phase) refl where
  at_test : (copying : Bool) → is_copying port.receiving.phase ≡ copying
      → (if copying then part_answer port.receiving (gathered_next port bridge) else NotCopying) ≡ Whole number frame → is_copying port.receiving.phase ≡ true
  at_test true is whole = is
  at_test false is whole = absurd (cc whole)

answers : Receiving → List ℕ → Bool → Bool → LaneCopy
answers receiving gathered more others =
    if more then Part receiving.got receiving.part
    else if others then Part receiving.got receiving.part
    else Whole receiving.done gathered

-- After a copy that is answered with a whole frame the receiver isn't copying any more.
pub whole_copied : (port : PortState) (bridge : Bridge) (number : ℕ) (frame : List ℕ) → port_copy_answer port bridge ≡ Whole number frame
    → is_copying (port_after_copy port bridge).receiving.phase ≡ false
unfolding parts answers
whole_copied port bridge number frame = at_tests (is_copying port.receiving.phase) (more_parts port.receiving) (more_entries port.receiving) where
  at_tests : (copying more others : Bool) → (if copying then answers port.receiving (gathered_next port bridge) more others else NotCopying) ≡ Whole number frame
      → is_copying (if copying then with_receiving port (parts port.receiving (gathered_next port bridge) more others) else port).receiving.phase ≡ false
  at_tests false more others whole = absurd (cc whole)
  at_tests true true others whole = absurd (cc whole)
  at_tests true false true whole = absurd (cc whole)
  at_tests true false false whole = refl

-- Clearing and giving back

-- A clear leaves a port with the plan, side and queue that it had.
pub clear_place : (port : PortState) → SamePlace (port_after_clear port) port
clear_place port = place_if port (record port.receiving { phase = Cleared }) (is_copied port.receiving.phase)

-- A receiver that is copying after a clear was copying before it.
pub clear_goes_on : (port : PortState) → is_copying (port_after_clear port).receiving.phase ≡ true → is_copying port.receiving.phase ≡ true
clear_goes_on port = goes_on_if port (record port.receiving { phase = Cleared }) (is_copied port.receiving.phase) refl

-- An ack leaves a port with the plan, side and queue that it had.
pub ack_place : (port : PortState) → SamePlace (port_after_ack port) port
ack_place port = place_if port (record port.receiving { phase = Idle }) (is_cleared port.receiving.phase)

-- A receiver that is copying after an ack was copying before it.
pub ack_goes_on : (port : PortState) → is_copying (port_after_ack port).receiving.phase ≡ true → is_copying port.receiving.phase ≡ true
ack_goes_on port = goes_on_if port (record port.receiving { phase = Idle }) (is_cleared port.receiving.phase) refl

-- Posting

-- A post leaves a port with the plan, side and queue that it had.
pub post_place : (port : PortState) → SamePlace (port_after_post port) port
post_place port = record { same_plan = refl; same_side = refl; same_queue = refl }

-- Looking

look_at : (answer : LookAnswer) (queue : QueueState) (port : PortState) → SamePlace port queue.port → SamePlace (after_look_answer answer queue port).port queue.port
look_at (Ready number len) queue port same = same
look_at PeerDown queue port same = same_place queue.port
look_at answer queue port same = same_place queue.port

-- A look leaves the port of a queue with the plan, side and queue that it had.
pub look_place : (queue : QueueState) (bridge : Bridge) → SamePlace (queue_after_look queue bridge).port queue.port
look_place queue bridge =
    look_at (look_answer queue bridge) queue (port_after_look queue.port bridge) (place_if queue.port (entry_found queue.port.receiving (found_seen queue.port bridge)) (is_idle queue.port.receiving.phase))

-- an entry that is found is the next one

next_found : (receiving : Receiving) (found : Found) (number len : ℕ) → answer_of_look (look_found receiving found) ≡ Ready number len → number ≡ receiving.got
next_found receiving NoEntry number len e = absurd (cc e)
next_found receiving ALinkDownEntry number len e = absurd (cc e)
next_found receiving (AnotherVersion seen own) number len e = absurd (cc e)
next_found receiving (TooManyBytes many most) number len e = absurd (cc e)
next_found receiving (AnEntry size left) number len e = cc e

next_where : (receiving : Receiving) (found : Found) (joined closed idle : Bool) (number len : ℕ)
    → (if not joined then NotJoined else if closed then QueueClosed else answer_of_look (if idle then look_found receiving found else RingOutOfTurn)) ≡ Ready number len → number ≡ receiving.got
next_where receiving found false closed idle number len e = absurd (cc e)
next_where receiving found true true idle number len e = absurd (cc e)
next_where receiving found true false false number len e = absurd (cc e)
next_where receiving found true false true number len e = next_found receiving found number len e

-- A look that is answered ready is answered with the number of entries taken so far.
pub ready_next : (queue : QueueState) (bridge : Bridge) (number len : ℕ) → look_answer queue bridge ≡ Ready number len → number ≡ queue.port.receiving.got
ready_next queue bridge number len e =
    next_where queue.port.receiving (found_seen queue.port bridge) (is_joined queue bridge) queue.closed (is_idle queue.port.receiving.phase) number len e

-- a look that finds no entry leaves the receiver as it was

unfound_by : (answer : LookAnswer) (queue : QueueState) (port : PortState) → ((number len : ℕ) → answer ≡ Ready number len → ⊥)
    → (after_look_answer answer queue port).port.receiving ≡ queue.port.receiving
unfound_by (Ready number len) queue port other = absurd (other number len refl)
unfound_by answer queue port other = refl

-- A look that isn't answered ready leaves the receiver of the queue's port as it was.
pub unfound_receives : (queue : QueueState) (bridge : Bridge) → ((number len : ℕ) → look_answer queue bridge ≡ Ready number len → ⊥)
    → (queue_after_look queue bridge).port.receiving ≡ queue.port.receiving
unfound_receives queue bridge = unfound_by (look_answer queue bridge) queue (port_after_look queue.port bridge)
