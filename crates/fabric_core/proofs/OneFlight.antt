-- A bridge that differs in one side's flight alone, as a post and an ack leave it, and one that differs in bytes alone.
use Rattle.std.proofs.Common.{◌≡◌, ◌∙◌, ℕ, ◌+◌, Bool, true, false, List, [], ◌∷◌, refl, sym, ap, subst, arith, if◌then◌else◌}
use Rattle.step_kinds.specs.Sides.{other_side}
use Rattle.step_kinds.specs.declared.names.Side.{Side}
use Rattle.step_kinds.specs.declared.names.Side.TheVariants.{A, B}
use Rattle.step_kinds.specs.declared.steps.Label.{Label}
use Rattle.step_kinds.specs.declared.steps.Label.TheVariants.{Chunk, Len, Ver, Flag, Down, Bell, Index, Pad, Raw}
use Rattle.pair_model.specs.RingWrites.{WindowWrite, index_write}
use Rattle.lane_model.specs.Lane.{Entry}
use Rattle.lane_model.specs.Tests.{is_cleared, is_copied}
use Rattle.pair_model.specs.Link.{is_up}
use Rattle.posted_queue.specs.Flight.{Flight, given_back}
use Rattle.bridge_pair.specs.Bridge.{Bridge, flight_of, pages_of, with_bytes, with_flight}
use Rattle.bridge_pair.specs.Ends.{after_posting}
use Rattle.bridge_pair.specs.Flights.{Flying, flying_of}
use Rattle.bridge_pair.specs.Writes.{bell_write, memory_write}
use Rattle.frame_ring.specs.Calls.{port_acked_by, port_after_clear, cleared_by, first_posted, last_got, port_next_begun, posted_by}
use Rattle.frame_ring.specs.Port.{PortState, unused_of}
use Rattle.frame_ring.specs.PortView.{HasPagesIn, flags_cleared, index_posted, reaches, ring_posted, window_posted}
use Rattle.frame_ring.proofs.Facade.{unused_cleared}
use Rattle.queue_pair.specs.Queue.{QueueState, with_port}
use Rattle.fabric_rule.specs.Parts.{QueuePart}
use Rattle.fabric_core.specs.Parts.{KeepsPort}
use Rattle.fabric_core.proofs.PromisesOfQueues.{SamePlace, keeps_exact, keeps_seen}
use Rattle.fabric_core.proofs.Phases.{clear_place}

-- One flight

pub record OneFlight (before : Bridge) (side : Side) (after : Bridge) : Type 0 where
  pub flight : Flight Flying
  pub rest : after ≡ with_flight before side flight

same_flight : (bridge : Bridge) (side : Side) → bridge ≡ with_flight bridge side (flight_of bridge side)
same_flight bridge A = refl
same_flight bridge B = refl

no_flight : (bridge : Bridge) (side : Side) → OneFlight bridge side bridge
no_flight bridge side = record { flight = flight_of bridge side; rest = same_flight bridge side }

either_flight : (bridge : Bridge) (side : Side) (there : Bool) (one other : Flight Flying)
    → OneFlight bridge side (if there then with_flight bridge side one else with_flight bridge side other)
either_flight bridge side true one other = record { flight = one; rest = refl }
either_flight bridge side false one other = record { flight = other; rest = refl }

window_flight : (bridge : Bridge) (side : Side) (label : Label) (write : WindowWrite) → OneFlight bridge side (window_posted bridge side label write)
window_flight bridge side label write =
    either_flight bridge side (reaches bridge.plan side write.window)
    (after_posting (is_up bridge.link.state) (flight_of bridge side) (flying_of bridge.plan side (memory_write label write.window write.offset write.bytes)))
    (given_back (flight_of bridge side) 1)

write_flight : (bridge : Bridge) (side : Side) (entry : Entry) (label : Label) → OneFlight bridge side (ring_posted bridge side entry label)
write_flight bridge side entry (Chunk q n part) = window_flight bridge side _ _
write_flight bridge side entry (Len q n) = window_flight bridge side _ _
write_flight bridge side entry (Ver q n) = window_flight bridge side _ _
write_flight bridge side entry (Flag q n) = window_flight bridge side _ _
write_flight bridge side entry (Down q n) = window_flight bridge side _ _
write_flight bridge side entry (Bell q) = record { flight = after_posting (is_up bridge.link.state) (flight_of bridge side) (flying_of bridge.plan side (bell_write q)); rest = refl }
write_flight bridge side entry (Index q n) = no_flight bridge side
write_flight bridge side entry (Pad i value) = no_flight bridge side
write_flight bridge side entry (Raw window offset len) = no_flight bridge side

first_flight : (bridge : Bridge) (side : Side) (entry : Entry) (todo : List Label) → OneFlight bridge side (first_posted bridge side entry todo)
first_flight bridge side entry [] = no_flight bridge side
first_flight bridge side entry (label ∷ todo) = write_flight bridge side entry label

-- A post by a port changes nothing of the bridge but the flight of the port's side.
pub post_flight : (port : PortState) (bridge : Bridge) → OneFlight bridge port.side (posted_by port bridge)
post_flight port bridge = first_flight bridge port.side (port_next_begun port.queue port.sending).entry (port_next_begun port.queue port.sending).todo

-- An ack by a port changes nothing of the bridge but the flight of the port's side.
pub ack_flight : (port : PortState) (bridge : Bridge) → OneFlight bridge port.side (port_acked_by port bridge)
ack_flight port bridge = at_test (is_cleared port.receiving.phase) where
  at_test : (cleared : Bool) → OneFlight bridge port.side (if cleared then index_posted bridge port.side port.queue (last_got port.receiving) else bridge)
  at_test true =
      window_flight bridge port.side (Index port.queue (last_got port.receiving)) (index_write bridge.plan port.side port.queue (last_got port.receiving))
  at_test false = no_flight bridge port.side

other_flight : (bridge : Bridge) (side : Side) (flight : Flight Flying) → flight_of (with_flight bridge side flight) (other_side side) ≡ flight_of bridge (other_side side)
other_flight bridge A flight = refl
other_flight bridge B flight = refl

keeps_flight : (old new : PortState) (before after : Bridge) → SamePlace new old → OneFlight before old.side after
    → (flight_of after old.side).spare + unused_of old ≡ (flight_of before old.side).spare + unused_of new → HasPagesIn new after → KeepsPort old new before after
keeps_flight old new before after same one room ready =
    let peer : (flight_of after (other_side old.side)).spare ≡ (flight_of before (other_side old.side)).spare =
    ap (λ (bridge : Bridge). (flight_of bridge (other_side old.side)).spare) one.rest ∙ ap (λ (flight : Flight Flying). flight.spare) (other_flight before old.side one.flight) in
    keeps_exact old new before after same (ap (λ (bridge : Bridge). bridge.plan) one.rest) (λ any. ap (λ (bridge : Bridge). pages_of bridge any) one.rest)
    room peer ready

-- a call of a queue that changed one flight alone, as its part is seen
pub flight_keeps : (seen part : QueuePart) (new next : QueueState) (before after posted : Bridge) → seen ≡ part → new ≡ next → SamePlace next.port seen.queue.port
    → after ≡ posted → OneFlight before seen.queue.port.side posted
    → (flight_of after seen.queue.port.side).spare + unused_of seen.queue.port ≡ (flight_of before seen.queue.port.side).spare + unused_of new.port
    → HasPagesIn new.port after → HasPagesIn part.queue.port before → KeepsPort part.queue.port new.port before after
flight_keeps seen part new next before after posted view is place e one room ready =
    keeps_seen seen part new next before after view is place
    (λ same. keeps_flight seen.queue.port new.port before after same (subst (OneFlight before seen.queue.port.side) (sym e) one) room) (λ had. ready)

-- Bytes alone

record OtherBytes (before : Bridge) (side : Side) (after : Bridge) : Type 0 where
  pub bytes : List ℕ
  pub rest : after ≡ with_bytes before side bytes

same_bytes : (bridge : Bridge) (side : Side) → OtherBytes bridge side bridge
same_bytes bridge A = record { bytes = bridge.memories.a.bytes; rest = refl }
same_bytes bridge B = record { bytes = bridge.memories.b.bytes; rest = refl }

clear_bytes : (port : PortState) (bridge : Bridge) → OtherBytes bridge port.side (cleared_by port bridge)
clear_bytes port bridge = at_test (is_copied port.receiving.phase) where
  at_test : (copied : Bool) → OtherBytes bridge port.side (if copied then flags_cleared bridge port.side port.queue (last_got port.receiving) else bridge)
  at_test true = record { bytes = _; rest = refl }
  at_test false = same_bytes bridge port.side

pages_stay : (bridge : Bridge) (side any : Side) (bytes : List ℕ) → pages_of (with_bytes bridge side bytes) any ≡ pages_of bridge any
pages_stay bridge A A bytes = refl
pages_stay bridge A B bytes = refl
pages_stay bridge B A bytes = refl
pages_stay bridge B B bytes = refl

keeps_bytes : (old new : PortState) (before after : Bridge) → SamePlace new old → OtherBytes before old.side after → unused_of new ≡ unused_of old → HasPagesIn new after
    → KeepsPort old new before after
keeps_bytes old new before after same other room ready =
    let flights = λ (any : Side). ap (λ (bridge : Bridge). (flight_of bridge any).spare) other.rest in
    keeps_exact old new before after same (ap (λ (bridge : Bridge). bridge.plan) other.rest)
    (λ any. ap (λ (bridge : Bridge). pages_of bridge any) other.rest ∙ pages_stay before old.side any other.bytes)
    (same_room (flight_of before old.side).spare (flight_of after old.side).spare (unused_of old) (unused_of new) (flights old.side) room)
    (flights (other_side old.side)) ready where
      same_room : (spare after unused unused_after : ℕ) → after ≡ spare → unused_after ≡ unused → after + unused ≡ spare + unused_after
      same_room spare after unused unused_after e f = omega (arith, e, f)

-- a clear, which uses no promise, as the part of its queue is seen
pub clear_keeps : (seen part : QueuePart) (new : QueueState) (before after : Bridge) → seen ≡ part → new ≡ with_port seen.queue (port_after_clear seen.queue.port)
    → after ≡ cleared_by seen.queue.port before → HasPagesIn new.port after → HasPagesIn part.queue.port before → KeepsPort part.queue.port new.port before after
clear_keeps seen part new before after view is e ready =
    let old = seen.queue.port in
    keeps_seen seen part new (with_port seen.queue (port_after_clear old)) before after view is (clear_place old)
    (λ same. keeps_bytes old new.port before after same (subst (OtherBytes before old.side) (sym e) (clear_bytes old before))
    (ap (λ (queue : QueueState). unused_of queue.port) is ∙ unused_cleared old)) (λ had. ready)
