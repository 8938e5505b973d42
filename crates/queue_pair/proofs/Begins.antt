-- A queue begins a frame where its port does, and finds an entry where its port does.
use Rattle.std.proofs.Common.{◌≡◌, ℕ, Bool, true, false, not, Some, None, ap, if◌then◌else◌}
use Rattle.bridge_pair.specs.Bridge.{Bridge}
use Rattle.frame_ring.specs.Calls.{PortBeginsFrame as PortBegins, port_begin_answer, port_look_answer}
use Rattle.frame_ring.specs.declared.RingLook.{RingLook}
use Rattle.frame_ring.specs.declared.RingLook.TheVariants.{Ready as RingReady, Empty as RingEmpty, PeerDown as RingPeerDown, VerDiffers as RingVerDiffers, Long as RingLong, OutOfTurn as RingOutOfTurn}
use Rattle.pair_model.specs.Link.{is_up}
use Rattle.queue_pair.specs.Gates.{BeginsFrame, answer_of_begun, answer_of_look, answer_unless, is_joined, look_answer}
use Rattle.queue_pair.specs.Queue.{QueueState}
use Rattle.queue_pair.specs.declared.BeginAnswer.TheVariants.{Ok as IsBegun, LinkDown, NotReady, Closed}
use Rattle.queue_pair.specs.declared.LookAnswer.TheVariants.{Ready, NotReady as NotJoined, Closed as QueueClosed}
use Rattle.step_kinds.specs.declared.lanes.Begun.{Begun}
use Rattle.step_kinds.specs.declared.lanes.Begun.TheVariants.{Ok as BegunOk, TooLong as FrameTooLong, Busy as PortBusy, NoRoom as RingFull}

begun_number : (begun : Begun) (number : ℕ) → answer_of_begun begun ≡ IsBegun number → begun ≡ BegunOk number
begun_number (BegunOk told) number e = let same : told ≡ number = cc e in ap BegunOk same
begun_number (FrameTooLong len most) number e = absurd (cc e)
begun_number PortBusy number e = absurd (cc e)
begun_number (RingFull head tail) number e = absurd (cc e)

begun_by_port : (up joined closed : Bool) (begun : Begun) (number : ℕ)
    → answer_unless (if not up then Some LinkDown else if not joined then Some NotReady else if closed then Some Closed else None) begun ≡ IsBegun number → begun ≡ BegunOk number
begun_by_port false joined closed begun number e = absurd (cc e)
begun_by_port true false closed begun number e = absurd (cc e)
begun_by_port true true true begun number e = absurd (cc e)
begun_by_port true true false begun number e = begun_number begun number e

-- If a queue begins a frame, its port does.
pub port_begins : (queue : QueueState) (bridge : Bridge) (len : ℕ) → BeginsFrame queue bridge len → PortBegins queue.port bridge len
port_begins queue bridge len begins =
    (begins.0, begun_by_port (is_up bridge.link.state) (is_joined queue bridge) queue.closed (port_begin_answer queue.port bridge len) begins.0 begins.1)

ready_number : (look : RingLook) (number len : ℕ) → answer_of_look look ≡ Ready number len → look ≡ RingReady number len
ready_number (RingReady seen size) number len e = cc e
ready_number RingEmpty number len e = absurd (cc e)
ready_number RingPeerDown number len e = absurd (cc e)
ready_number (RingVerDiffers seen own) number len e = absurd (cc e)
ready_number (RingLong size most) number len e = absurd (cc e)
ready_number RingOutOfTurn number len e = absurd (cc e)

found_by_port : (joined closed : Bool) (look : RingLook) (number len : ℕ) → (if not joined then NotJoined else if closed then QueueClosed else answer_of_look look) ≡ Ready number len
    → look ≡ RingReady number len
found_by_port false closed look number len e = absurd (cc e)
found_by_port true true look number len e = absurd (cc e)
found_by_port true false look number len e = ready_number look number len e

-- If a queue finds an entry, its port does.
pub port_finds : (queue : QueueState) (bridge : Bridge) (number len : ℕ) → look_answer queue bridge ≡ Ready number len → port_look_answer queue.port bridge ≡ RingReady number len
port_finds queue bridge number len found = found_by_port (is_joined queue bridge) queue.closed (port_look_answer queue.port bridge) number len found
