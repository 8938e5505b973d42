-- A beginning and a look leave no fewer unused promises of room than there were.
use Rattle.std.specs.Prelude.{◌||◌, not, nat_lt}
use Rattle.std.proofs.Common.{◌≡◌, ℕ, ◌+◌, ◌≤◌, ◌++◌, Bool, true, false, Option, Some, None, List, [], ◌∷◌, length, refl, subst, sym, arith, if◌then◌else◌}
use Rattle.step_kinds.specs.declared.lanes.Begun.{Begun}
use Rattle.step_kinds.specs.declared.lanes.Begun.TheVariants.{Ok as BegunOk, TooLong, Busy}
use Rattle.step_kinds.specs.declared.steps.Label.{Label}
use Rattle.lane_model.specs.Lane.{Entry}
use Rattle.lane_model.specs.Tests.{is_empty_list, is_idle}
use Rattle.pair_model.specs.Sizes.{pieces_in}
use Rattle.bridge_pair.specs.Bridge.{Bridge}
use Rattle.frame_ring.specs.Calls.{port_after_look, port_begin_answer, port_down_answer, down_begun, entry_found, found_seen, port_frame_begun, room_answer, sizes_seen, where_begun}
use Rattle.frame_ring.specs.Port.{PortState, Receiving, Sending, is_port_busy, left_of_entry, unused_of, with_receiving, with_sending, writes_from, writes_left}
use Rattle.queue_pair.specs.Gates.{queue_after_begin, queue_after_look, after_look_answer, after_qpdown, closed_where_begun, look_answer, port_unless, qpdown_answer, sender_refusal}
use Rattle.queue_pair.specs.Queue.{QueueState}
use Rattle.queue_pair.specs.declared.BeginAnswer.{BeginAnswer}
use Rattle.queue_pair.specs.declared.BeginAnswer.TheVariants.{Ok as IsBegun}
use Rattle.queue_pair.specs.declared.LookAnswer.{LookAnswer}
use Rattle.queue_pair.specs.declared.LookAnswer.TheVariants.{Ready, PeerDown}

-- of numbers alone
no_less : (n : ℕ) → n ≤ n
no_less n = omega arith

from_none : (before after held : ℕ) → before ≡ 0 → before + held ≤ after + held
from_none before after held none = omega (arith, none)

held_more : (writes held : ℕ) → writes + 0 ≤ writes + held
held_more writes held = omega arith

-- a port that isn't busy has no write left to post
none_left : (queue begun : ℕ) (entry : Entry) (todo : List Label) (waiting : List Entry) → (not (is_empty_list todo) || not (is_empty_list waiting)) ≡ false
    → length (left_of_entry entry todo ++ writes_from queue begun waiting) ≡ 0
none_left queue begun entry [] [] idle = refl
none_left queue begun entry [] (next ∷ waiting) idle = absurd (cc idle)
none_left queue begun entry (label ∷ todo) waiting idle = absurd (cc idle)

-- so whatever it begins, it has no fewer; the promise for the entry at hand stays
begun_more : (port : PortState) (sending : Sending) → is_port_busy port.sending ≡ false → unused_of port ≤ unused_of (with_sending port sending)
begun_more port sending idle =
    from_none (length (writes_left port)) (length (writes_left (with_sending port sending))) (if is_idle port.receiving.phase then 0 else 1)
    (none_left port.queue port.sending.begun port.sending.entry port.sending.todo port.sending.waiting idle)

-- a beginning that isn't refused finds the port not busy
idle_by : (busy : Bool) (room : Begun) (number : ℕ) → (if busy then Busy else room) ≡ BegunOk number → busy ≡ false
idle_by true room number is = absurd (cc is)
idle_by false room number is = refl

idle_by_both : (long busy : Bool) (len most : ℕ) (room : Begun) (number : ℕ) → (if long then TooLong len most else if busy then Busy else room) ≡ BegunOk number → busy ≡ false
idle_by_both true busy len most room number is = absurd (cc is)
idle_by_both false busy len most room number is = idle_by busy room number is

-- a beginning that is refused leaves as many
where_more : (queue : QueueState) (new : PortState) (refusal : Option BeginAnswer) (begun : Begun) → ((number : ℕ) → begun ≡ BegunOk number → unused_of queue.port ≤ unused_of new)
    → unused_of queue.port ≤ unused_of (port_unless refusal queue (where_begun queue.port new begun)).port
where_more queue new (Some refusal) begun more = no_less (unused_of queue.port)
where_more queue new None (BegunOk number) more = more number refl
where_more queue new None begun more = no_less (unused_of queue.port)

-- a frame, and a link-down entry

-- A begin leaves the port of a queue with no fewer unused promises of room than it had.
pub begin_more : (queue : QueueState) (bridge : Bridge) (frame : List ℕ) → unused_of queue.port ≤ unused_of (queue_after_begin queue bridge frame).port
begin_more queue bridge frame =
    where_more queue (port_frame_begun queue.port frame) (sender_refusal queue bridge) (port_begin_answer queue.port bridge (length frame))
    (λ number is. begun_more queue.port (port_frame_begun queue.port frame).sending (not_busy number is))
  where
    not_busy : (number : ℕ) → port_begin_answer queue.port bridge (length frame) ≡ BegunOk number → is_port_busy queue.port.sending ≡ false
    not_busy =
        idle_by_both (nat_lt (sizes_seen queue.port).most (length frame)) (is_port_busy queue.port.sending) (length frame) (sizes_seen queue.port).most
        (room_answer queue.port bridge (pieces_in (sizes_seen queue.port).largest (length frame)))

closed_more : (answer : BeginAnswer) (unused : ℕ) (queue : QueueState) → unused ≤ unused_of queue.port → unused ≤ unused_of (closed_where_begun answer queue).port
closed_more (IsBegun number) unused queue more = more
closed_more answer unused queue more = more

-- A going down leaves the port of a queue with no fewer unused promises of room than it had.
pub down_more : (queue : QueueState) (bridge : Bridge) → unused_of queue.port ≤ unused_of (after_qpdown queue bridge).port
down_more queue bridge =
    closed_more (qpdown_answer queue bridge) (unused_of queue.port) (port_unless (sender_refusal queue bridge) queue (where_begun queue.port (down_begun queue.port) (port_down_answer queue.port bridge)))
    (where_more queue (down_begun queue.port) (sender_refusal queue bridge) (port_down_answer queue.port bridge)
    (λ number is. begun_more queue.port (down_begun queue.port).sending (idle_by (is_port_busy queue.port.sending) (room_answer queue.port bridge 1) number is)))

-- a look holds one promise more, or as many
found_more : (port : PortState) (receiving : Receiving) (idle : Bool) → is_idle port.receiving.phase ≡ idle → unused_of port ≤ unused_of (if idle then with_receiving port receiving else port)
found_more port receiving true is =
    subst (λ (idle : Bool). length (writes_left port) + (if idle then 0 else 1) ≤ unused_of (with_receiving port receiving)) (sym is)
    (held_more (length (writes_left port)) (if is_idle receiving.phase then 0 else 1))
found_more port receiving false is = no_less (unused_of port)

-- whatever the look finds
looked_more : (answer : LookAnswer) (queue : QueueState) (port : PortState) → unused_of queue.port ≤ unused_of port → unused_of queue.port ≤ unused_of (after_look_answer answer queue port).port
looked_more (Ready number len) queue port more = more
looked_more PeerDown queue port more = no_less (unused_of queue.port)
looked_more answer queue port more = no_less (unused_of queue.port)

-- A look leaves the port of a queue with no fewer unused promises of room than it had.
pub look_more : (queue : QueueState) (bridge : Bridge) → unused_of queue.port ≤ unused_of (queue_after_look queue bridge).port
look_more queue bridge =
    looked_more (look_answer queue bridge) queue (port_after_look queue.port bridge)
    (found_more queue.port (entry_found queue.port.receiving (found_seen queue.port bridge)) (is_idle queue.port.receiving.phase) refl)
