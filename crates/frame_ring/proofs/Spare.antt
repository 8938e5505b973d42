-- Room that is promised and promises that aren't used go down together.
use Rattle.std.proofs.Common.{◌≡◌, ◌∙◌, ℕ, ◌+◌, ◌-◌, Bool, true, false, Some, None, List, [], ◌∷◌, length, refl, sym, ap, arith, if◌then◌else◌}
use Rattle.step_kinds.specs.declared.names.Side.{Side}
use Rattle.step_kinds.specs.declared.names.Side.TheVariants.{A, B}
use Rattle.step_kinds.specs.declared.steps.Label.{Label}
use Rattle.step_kinds.specs.declared.steps.Label.TheVariants.{Chunk, Len, Ver, Flag, Down, Bell, Index, Pad, Raw}
use Rattle.pair_model.specs.RingWrites.{WindowWrite}
use Rattle.lane_model.specs.Lane.{Entry}
use Rattle.lane_model.specs.Tests.{is_copied, is_copying, is_idle}
use Rattle.lane_model.specs.declared.Phase.{Phase}
use Rattle.lane_model.specs.declared.Phase.TheVariants.{Idle, Copying, Copied, Cleared}
use Rattle.pair_model.specs.Link.{is_up}
use Rattle.posted_queue.specs.Flight.{Flight, given_back, posted}
use Rattle.bridge_pair.specs.Bridge.{Bridge, flight_of, with_flight}
use Rattle.bridge_pair.specs.Calls.{bridge_after_post as after_posting}
use Rattle.bridge_pair.specs.Flights.{Flying, flying_of}
use Rattle.bridge_pair.specs.Writes.{PostedWrite, bell_write, memory_write}
use Rattle.frame_ring.specs.Calls.{port_after_clear, port_after_copy, port_after_post, first_label, gathered_next, let_go, more_entries, more_parts, port_next_begun, part_copied, rest_of}
use Rattle.frame_ring.specs.Outgoing.{IsLabelOf}
use Rattle.frame_ring.specs.Port.{PortState, Receiving, Sending, unused_of, with_receiving, writes_left}
use Rattle.frame_ring.specs.PortView.{reaches, ring_posted, window_posted}
use Rattle.frame_ring.proofs.Ready.{lefts, next_keeps}

flight_with : (bridge : Bridge) (side : Side) (flight : Flight Flying) → flight_of (with_flight bridge side flight) side ≡ flight
flight_with bridge A flight = refl
flight_with bridge B flight = refl

one_less : (bridge : Bridge) (side : Side) (write : PostedWrite) (up : Bool)
    → (if up then posted (flight_of bridge side) (flying_of bridge.plan side write) else given_back (flight_of bridge side) 1).spare ≡ (flight_of bridge side).spare - 1
one_less bridge side write true = refl
one_less bridge side write false = refl

spare_of_post : (bridge : Bridge) (side : Side) (write : PostedWrite) → (flight_of (after_posting bridge side write) side).spare ≡ (flight_of bridge side).spare - 1
spare_of_post bridge side write = ap (λ (flight : Flight Flying). flight.spare) (flight_with bridge side _) ∙ one_less bridge side write (is_up bridge.link.state)

-- Posting a write through a window takes one from its side's spare room, even where the peer lacks the window.
pub spare_of_window : (bridge : Bridge) (side : Side) (label : Label) (write : WindowWrite) → (flight_of (window_posted bridge side label write) side).spare ≡ (flight_of bridge side).spare - 1
spare_of_window bridge side label write = at_test (reaches bridge.plan side write.window) where
  at_test : (there : Bool) →
      (flight_of (if there then after_posting bridge side (memory_write label write.window write.offset write.bytes) else with_flight bridge side (given_back (flight_of bridge side) 1)) side).spare
      ≡ (flight_of bridge side).spare - 1
  at_test true = spare_of_post bridge side (memory_write label write.window write.offset write.bytes)
  at_test false = ap (λ (flight : Flight Flying). flight.spare) (flight_with bridge side (given_back (flight_of bridge side) 1))

-- Posting any write of an entry, its doorbell among them, takes one from its side's spare room.
pub spare_of_write : (bridge : Bridge) (side : Side) (queue : ℕ) (entry : Entry) (label : Label) → IsLabelOf queue entry label
    → (flight_of (ring_posted bridge side entry label) side).spare ≡ (flight_of bridge side).spare - 1
spare_of_write bridge side queue entry (Chunk q n part) is = spare_of_window bridge side (Chunk q n part) _
spare_of_write bridge side queue entry (Len q n) is = spare_of_window bridge side (Len q n) _
spare_of_write bridge side queue entry (Ver q n) is = spare_of_window bridge side (Ver q n) _
spare_of_write bridge side queue entry (Flag q n) is = spare_of_window bridge side (Flag q n) _
spare_of_write bridge side queue entry (Down q n) is = spare_of_window bridge side (Down q n) _
spare_of_write bridge side queue entry (Bell q) is = spare_of_post bridge side (bell_write q)
spare_of_write bridge side queue entry (Index q n) is = absurd is
spare_of_write bridge side queue entry (Pad i value) is = absurd is
spare_of_write bridge side queue entry (Raw window offset len) is = absurd is

let_go_keeps : (queue begun told : ℕ) (entry : Entry) (todo : List Label) (waiting : List Entry)
    → length (lefts queue (let_go (record { begun = begun; told = told; entry = entry; todo = todo; waiting = waiting }))) ≡ length (lefts queue (record { begun = begun; told = told; entry = entry; todo = todo; waiting = waiting }))
let_go_keeps queue begun told entry [] [] = refl
let_go_keeps queue begun told entry [] (x ∷ xs) = refl
let_go_keeps queue begun told entry (x ∷ xs) waiting = refl

-- with the first of its labels gone, one write less is left
one_gone : (queue : ℕ) (next : Sending) (label : Label) → Some label ≡ first_label next.todo → length (lefts queue (let_go (record next { todo = rest_of next.todo }))) + 1 ≡ length (lefts queue next)
one_gone queue next label is = at_todo next.begun next.told next.entry next.todo next.waiting is where
  at_todo : (begun told : ℕ) (entry : Entry) (todo : List Label) (waiting : List Entry) → Some label ≡ first_label todo
      → length (lefts queue (let_go (record { begun = begun; told = told; entry = entry; todo = rest_of todo; waiting = waiting }))) + 1 ≡ length (lefts queue (record { begun = begun; told = told; entry = entry; todo = todo; waiting = waiting }))
  at_todo begun told entry [] waiting e = absurd (cc e)
  at_todo begun told entry (first ∷ todo) waiting e = omega (arith, let_go_keeps queue begun told entry todo waiting)

none_gone : (queue : ℕ) (next : Sending) → None ≡ first_label next.todo → length (lefts queue (let_go (record next { todo = rest_of next.todo }))) ≡ length (lefts queue next)
none_gone queue next is = at_todo next.begun next.told next.entry next.todo next.waiting is where
  at_todo : (begun told : ℕ) (entry : Entry) (todo : List Label) (waiting : List Entry) → None ≡ first_label todo
      → length (lefts queue (let_go (record { begun = begun; told = told; entry = entry; todo = rest_of todo; waiting = waiting }))) ≡ length (lefts queue (record { begun = begun; told = told; entry = entry; todo = todo; waiting = waiting }))
  at_todo begun told entry [] waiting e = let_go_keeps queue begun told entry [] waiting
  at_todo begun told entry (first ∷ todo) waiting e = absurd (cc e)

-- A post that finds a write to post leaves the port with one unused promise less.
pub unused_posted : (port : PortState) (label : Label) → Some label ≡ first_label (port_next_begun port.queue port.sending).todo → unused_of (port_after_post port) + 1 ≡ unused_of port
unused_posted port label is = omega (arith, one_gone port.queue (port_next_begun port.queue port.sending) label is, ap length (next_keeps port.queue port.sending))

-- A post that finds nothing to post leaves the port with as many unused promises as before.
pub unused_same : (port : PortState) → None ≡ first_label (port_next_begun port.queue port.sending).todo → unused_of (port_after_post port) ≡ unused_of port
unused_same port is = omega (arith, none_gone port.queue (port_next_begun port.queue port.sending) is, ap length (next_keeps port.queue port.sending))

-- A copy and a clear use no promise

-- a receiver that passes a test which idle ones don't has an entry at hand
busy : (test : Phase → Bool) → test Idle ≡ false → (phase : Phase) → test phase ≡ true → is_idle phase ≡ false
busy test idle Idle is = absurd (cc)
busy test idle Copying is = refl
busy test idle Copied is = refl
busy test idle Cleared is = refl

still_busy : (one two three : Receiving) (more others : Bool) → is_idle one.phase ≡ false → is_idle two.phase ≡ false → is_idle three.phase ≡ false → is_idle (if more then one else if others then two else three).phase ≡ false
still_busy one two three true others e f g = e
still_busy one two three false true e f g = f
still_busy one two three false false e f g = g

-- a receiver that has an entry at hand before and after
unused_busy : (port : PortState) (receiving : Receiving) → is_idle port.receiving.phase ≡ false → is_idle receiving.phase ≡ false → unused_of (with_receiving port receiving) ≡ unused_of port
unused_busy port receiving was is = ap (λ idle. length (writes_left port) + (if idle then 0 else 1)) (is ∙ sym was)

unused_if : (port : PortState) (receiving : Receiving) (test : Bool) → (test ≡ true → unused_of (with_receiving port receiving) ≡ unused_of port) → unused_of (if test then with_receiving port receiving else port) ≡ unused_of port
unused_if port receiving true h = h refl
unused_if port receiving false h = refl

-- A copy leaves a port with as many unused promises as before.
pub unused_copied : (port : PortState) (bridge : Bridge) → unused_of (port_after_copy port bridge) ≡ unused_of port
unused_copied port bridge =
    unused_if port (part_copied port.receiving (gathered_next port bridge)) (is_copying port.receiving.phase)
    (λ copying. let was = busy is_copying refl port.receiving.phase copying in
    unused_busy port (part_copied port.receiving (gathered_next port bridge)) was (still_busy _ _ _ (more_parts port.receiving) (more_entries port.receiving) was refl refl))

-- A clear leaves a port with as many unused promises as before.
pub unused_cleared : (port : PortState) → unused_of (port_after_clear port) ≡ unused_of port
unused_cleared port =
    unused_if port (record port.receiving { phase = Cleared }) (is_copied port.receiving.phase)
    (λ copied. unused_busy port (record port.receiving { phase = Cleared }) (busy is_copied refl port.receiving.phase copied) refl)
