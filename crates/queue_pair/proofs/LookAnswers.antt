-- What a look leaves of a queue: the port where nothing is found, and the queue closed where a link-down entry is.
use Rattle.std.proofs.Common.{◌≡◌, ◌∙◌, Bool, true, false, not, refl, ap, if◌then◌else◌}
use Rattle.bridge_pair.specs.Bridge.{Bridge}
use Rattle.pair_model.specs.Headers.{Found, NoEntry, ALinkDownEntry, AnotherVersion, TooManyBytes, AnEntry}
use Rattle.frame_ring.specs.Port.{PortState, with_receiving}
use Rattle.frame_ring.specs.Calls.{entry_found, look_found, found_seen, port_look_answer, port_after_look}
use Rattle.frame_ring.specs.declared.RingLook.{RingLook}
use Rattle.frame_ring.specs.declared.RingLook.TheVariants.{Ready as RingReady, Empty as RingEmpty, PeerDown as RingPeerDown, VerDiffers as RingVerDiffers, Long as RingLong, OutOfTurn as RingOutOfTurn}
use Rattle.lane_model.specs.Tests.{is_idle}
use Rattle.queue_pair.specs.Gates.{queue_after_look, after_look_answer, answer_of_look, is_joined, look_answer}
use Rattle.queue_pair.specs.Queue.{QueueState, with_port}
use Rattle.queue_pair.specs.declared.LookAnswer.{LookAnswer}
use Rattle.queue_pair.specs.declared.LookAnswer.TheVariants.{NotReady as NotJoined, Closed as QueueClosed}

-- the queue with the port that was left, closed where a link-down entry was found
abbrev pub looked : RingLook → QueueState → PortState → QueueState
looked RingPeerDown queue port = record { port = port; closed = true }
looked look queue port = with_port queue port

found_looked : (queue : QueueState) (found : Found)
    → after_look_answer (answer_of_look (look_found queue.port.receiving found)) queue (with_receiving queue.port (entry_found queue.port.receiving found))
    ≡ looked (look_found queue.port.receiving found) queue (with_receiving queue.port (entry_found queue.port.receiving found))
found_looked queue NoEntry = refl
found_looked queue ALinkDownEntry = refl
found_looked queue (AnotherVersion seen own) = refl
found_looked queue (TooManyBytes len most) = refl
found_looked queue (AnEntry len left) = refl

-- whether or not the receiver is idle
idle_looked : (queue : QueueState) (found : Found) (idle : Bool)
    → after_look_answer (answer_of_look (if idle then look_found queue.port.receiving found else RingOutOfTurn)) queue (if idle then with_receiving queue.port (entry_found queue.port.receiving found) else queue.port)
    ≡ looked (if idle then look_found queue.port.receiving found else RingOutOfTurn) queue (if idle then with_receiving queue.port (entry_found queue.port.receiving found) else queue.port)
idle_looked queue found true = found_looked queue found
idle_looked queue found false = refl

open_answer : (joined closed : Bool) (answer : LookAnswer) → joined ≡ true → closed ≡ false → (if not joined then NotJoined else if closed then QueueClosed else answer) ≡ answer
open_answer false closed answer is_joined is_open = absurd (cc is_joined)
open_answer true true answer is_joined is_open = absurd (cc is_open)
open_answer true false answer is_joined is_open = refl

unjoined_answer : (joined closed : Bool) (answer : LookAnswer) → joined ≡ false → (if not joined then NotJoined else if closed then QueueClosed else answer) ≡ NotJoined
unjoined_answer true closed answer unjoined = absurd (cc unjoined)
unjoined_answer false closed answer unjoined = refl

closed_answer : (joined closed : Bool) (answer : LookAnswer) → joined ≡ true → closed ≡ true → (if not joined then NotJoined else if closed then QueueClosed else answer) ≡ QueueClosed
closed_answer false closed answer is_joined is_closed = absurd (cc is_joined)
closed_answer true false answer is_joined is_closed = absurd (cc is_closed)
closed_answer true true answer is_joined is_closed = refl

-- what a look answers where the queue isn't joined
pub answers_unjoined : (queue : QueueState) (bridge : Bridge) → is_joined queue bridge ≡ false → look_answer queue bridge ≡ NotJoined
answers_unjoined queue bridge unjoined = unjoined_answer (is_joined queue bridge) queue.closed (answer_of_look (port_look_answer queue.port bridge)) unjoined

-- where it is joined and closed
pub answers_closed : (queue : QueueState) (bridge : Bridge) → is_joined queue bridge ≡ true → queue.closed ≡ true → look_answer queue bridge ≡ QueueClosed
answers_closed queue bridge joined closed = closed_answer (is_joined queue bridge) queue.closed (answer_of_look (port_look_answer queue.port bridge)) joined closed

-- where it is joined and open
pub answers_by_port : (queue : QueueState) (bridge : Bridge) → is_joined queue bridge ≡ true → queue.closed ≡ false → look_answer queue bridge ≡ answer_of_look (port_look_answer queue.port bridge)
answers_by_port queue bridge joined opened = open_answer (is_joined queue bridge) queue.closed (answer_of_look (port_look_answer queue.port bridge)) joined opened

-- a look leaves a queue as it is where it isn't joined
pub unchanged_unjoined : (queue : QueueState) (bridge : Bridge) → is_joined queue bridge ≡ false → queue_after_look queue bridge ≡ queue
unchanged_unjoined queue bridge unjoined = ap (λ answer. after_look_answer answer queue (port_after_look queue.port bridge)) (answers_unjoined queue bridge unjoined)

-- and where it is closed
pub unchanged_closed : (queue : QueueState) (bridge : Bridge) → is_joined queue bridge ≡ true → queue.closed ≡ true → queue_after_look queue bridge ≡ queue
unchanged_closed queue bridge joined closed = ap (λ answer. after_look_answer answer queue (port_after_look queue.port bridge)) (answers_closed queue bridge joined closed)

-- what a look leaves of a queue that is joined and open
pub looked_is : (queue : QueueState) (bridge : Bridge) (look : RingLook) (port : PortState) → is_joined queue bridge ≡ true → queue.closed ≡ false
    → look ≡ port_look_answer queue.port bridge → port ≡ port_after_look queue.port bridge → queue_after_look queue bridge ≡ looked look queue port
looked_is queue bridge look port joined opened look_is port_is =
    rw look_is (rw port_is (
    ap (λ answer. after_look_answer answer queue (port_after_look queue.port bridge)) (answers_by_port queue bridge joined opened)
    ∙ idle_looked queue (found_seen queue.port bridge) (is_idle queue.port.receiving.phase)))

-- where no link-down entry was found
pub looked_else : (queue : QueueState) (look : RingLook) (port : PortState) → (look ≡ RingPeerDown → ⊥) → looked look queue port ≡ with_port queue port
looked_else queue RingPeerDown port not_down = absurd (not_down refl)
looked_else queue (RingReady number len) port not_down = refl
looked_else queue RingEmpty port not_down = refl
looked_else queue (RingVerDiffers seen own) port not_down = refl
looked_else queue (RingLong len most) port not_down = refl
looked_else queue RingOutOfTurn port not_down = refl
