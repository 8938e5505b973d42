-- The calls of a queue pair: link, joined queue and closed queue are tested before what the port answers.
use Rattle.std.specs.Prelude.{◌≡◌, ℕ, ◌||◌, Bool, true, not, Option, Some, None, List, is_some, bit_and, if◌then◌else◌}
use Rattle.step_kinds.specs.Bits.{has_bit, without_bits}
use Rattle.step_kinds.specs.declared.lanes.Begun.{Begun}
use Rattle.step_kinds.specs.declared.lanes.Begun.TheVariants.{Ok as BegunOk, TooLong as FrameTooLong, Busy as PortBusy, NoRoom as RingFull}
use Rattle.step_kinds.specs.declared.names.Side.{Side}
use Rattle.bridge_regs.specs.Doorbell.{with_pending}
use Rattle.pair_model.specs.Link.{is_up}
use Rattle.pair_model.specs.Refusals.{Test, OfLink, OfJoined, OfClosed, in_begin_order, in_look_order}
use Rattle.bridge_pair.specs.Bridge.{Bridge, bells_of, book_of, with_bells}
use Rattle.frame_ring.specs.Port.{PortState}
use Rattle.frame_ring.specs.Calls.{port_begin_answer, port_after_begin, port_down_answer, after_down, port_refuses_answer as port_refuses, port_look_answer, port_after_look}
use Rattle.frame_ring.specs.declared.RingLook.{RingLook}
use Rattle.frame_ring.specs.declared.RingLook.TheVariants.{Ready as RingReady, Empty as RingEmpty, PeerDown as RingPeerDown, VerDiffers as RingVerDiffers, Long as RingLong, OutOfTurn as RingOutOfTurn}
use Rattle.queue_pair.specs.Queue.{QueueState, with_port}
use Rattle.queue_pair.specs.declared.BeginAnswer.{BeginAnswer}
use Rattle.queue_pair.specs.declared.BeginAnswer.TheVariants.{Ok as IsBegun, LinkDown, NotReady, Closed, TooLong, Busy, NoRoom}
use Rattle.queue_pair.specs.declared.LookAnswer.{LookAnswer}
use Rattle.queue_pair.specs.declared.LookAnswer.TheVariants.{Ready, Empty, PeerDown, VerDiffers, Long, OutOfTurn, NotReady as NotJoined, Closed as QueueClosed}

-- whether the queue is joined on the side
abbrev pub is_joined : QueueState → Bridge → Bool
is_joined queue bridge = has_bit (book_of bridge queue.port.side).joined queue.port.queue

-- Sending

abbrev pub gate_tests : QueueState → Bridge → Test → Option BeginAnswer → Option BeginAnswer
gate_tests queue bridge OfLink later = if not (is_up bridge.link.state) then Some LinkDown else later
gate_tests queue bridge OfJoined later = if not (is_joined queue bridge) then Some NotReady else later
gate_tests queue bridge OfClosed later = if queue.closed then Some Closed else later
gate_tests queue bridge test later = later

-- why a side may not begin anything on the queue
abbrev pub sender_refusal : QueueState → Bridge → Option BeginAnswer
sender_refusal queue bridge = in_begin_order (gate_tests queue bridge) None

abbrev pub answer_of_begun : Begun → BeginAnswer
answer_of_begun (BegunOk number) = IsBegun number
answer_of_begun (FrameTooLong len most) = TooLong len most
answer_of_begun PortBusy = Busy
answer_of_begun (RingFull head tail) = NoRoom head tail

-- the first refusal, else what the port answers
abbrev pub answer_unless : Option BeginAnswer → Begun → BeginAnswer
answer_unless None begun = answer_of_begun begun
answer_unless (Some refusal) begun = refusal

abbrev pub port_unless : Option BeginAnswer → QueueState → PortState → QueueState
port_unless None queue port = with_port queue port
port_unless (Some refusal) queue port = queue

abbrev pub begin_answer : QueueState → Bridge → ℕ → BeginAnswer
begin_answer queue bridge len = answer_unless (sender_refusal queue bridge) (port_begin_answer queue.port bridge len)

-- a frame of this many bytes is begun, and not refused
abbrev pub BeginsFrame : QueueState → Bridge → ℕ → Type 0
BeginsFrame queue bridge len = (number : ℕ) × (begin_answer queue bridge len ≡ IsBegun number)

abbrev pub queue_after_begin : QueueState → Bridge → List ℕ → QueueState
queue_after_begin queue bridge frame = port_unless (sender_refusal queue bridge) queue (port_after_begin queue.port bridge frame)

abbrev pub qpdown_answer : QueueState → Bridge → BeginAnswer
qpdown_answer queue bridge = answer_unless (sender_refusal queue bridge) (port_down_answer queue.port bridge)

-- a queue on which a link-down entry was begun is closed at once
abbrev pub closed_where_begun : BeginAnswer → QueueState → QueueState
closed_where_begun (IsBegun number) queue = record queue { closed = true }
closed_where_begun answer queue = queue

abbrev pub after_qpdown : QueueState → Bridge → QueueState
after_qpdown queue bridge =
    closed_where_begun (qpdown_answer queue bridge) (port_unless (sender_refusal queue bridge) queue (after_down queue.port bridge))

abbrev pub refuses_answer : QueueState → Bridge → ℕ → Bool
refuses_answer queue bridge len = is_some (sender_refusal queue bridge) || port_refuses queue.port len

-- Looking

abbrev pub answer_of_look : RingLook → LookAnswer
answer_of_look (RingReady number len) = Ready number len
answer_of_look RingEmpty = Empty
answer_of_look RingPeerDown = PeerDown
answer_of_look (RingVerDiffers seen own) = VerDiffers seen own
answer_of_look (RingLong len most) = Long len most
answer_of_look RingOutOfTurn = OutOfTurn

abbrev pub gate_look_tests : QueueState → Bridge → Test → LookAnswer → LookAnswer
gate_look_tests queue bridge OfJoined later = if not (is_joined queue bridge) then NotJoined else later
gate_look_tests queue bridge OfClosed later = if queue.closed then QueueClosed else later
gate_look_tests queue bridge test later = later

-- the first refusal, else what the port answers
abbrev pub look_answer : QueueState → Bridge → LookAnswer
look_answer queue bridge = in_look_order (gate_look_tests queue bridge) (answer_of_look (port_look_answer queue.port bridge))

-- a look that finds an entry
abbrev pub FindsEntry : QueueState → Bridge → Type 0
FindsEntry queue bridge = (len : ℕ) × (look_answer queue bridge ≡ Ready queue.port.receiving.got len)

-- a link-down entry closes the queue on this side; every answer but Ready leaves the port as it was
abbrev pub after_look_answer : LookAnswer → QueueState → PortState → QueueState
after_look_answer (Ready number len) queue port = with_port queue port
after_look_answer PeerDown queue port = record queue { closed = true }
after_look_answer answer queue port = queue

abbrev pub queue_after_look : QueueState → Bridge → QueueState
queue_after_look queue bridge = after_look_answer (look_answer queue bridge) queue (port_after_look queue.port bridge)

-- Doorbells

-- a side takes its pending bits that aren't masked
abbrev pub irq_bits : Bridge → Side → ℕ
irq_bits bridge side = without_bits (bells_of bridge side).pending (bells_of bridge side).masked

abbrev pub after_irq : Bridge → Side → Bridge
after_irq bridge side = with_bells bridge side (with_pending (bells_of bridge side) (bit_and (bells_of bridge side).pending (bells_of bridge side).masked))
