-- What a begin and a post on a queue leave of what its calls need.
use Rattle.std.proofs.Common.{◌≡◌, ◌∙◌, ℕ, ◌+◌, ◌-◌, ◌≤◌, Option, Some, None, List, length, refl, sym, ap, subst, arith, lit≤}
use Rattle.std.proofs.lemmas.List.Elements.{All-nil}
use Rattle.step_kinds.specs.Sides.{other_side}
use Rattle.step_kinds.specs.declared.lanes.Begun.{Begun}
use Rattle.step_kinds.specs.declared.lanes.Begun.TheVariants.{Ok as BegunOk}
use Rattle.step_kinds.specs.declared.names.Side.{Side}
use Rattle.step_kinds.specs.declared.names.Side.TheVariants.{A, B}
use Rattle.bridge_pair.specs.Bridge.{Bridge, flight_of, pages_of, with_pages}
use Rattle.frame_ring.specs.Calls.{port_begin_answer, port_frame_begun, where_begun}
use Rattle.frame_ring.specs.Port.{PortState, unused_of}
use Rattle.frame_ring.specs.PortView.{FitsRings, HasPagesIn, IsLeftReady, with_room}
use Rattle.queue_pair.specs.Gates.{queue_after_begin, port_unless, sender_refusal}
use Rattle.queue_pair.specs.Queue.{QueueState, fresh_queue}
use Rattle.queue_pair.specs.declared.BeginAnswer.{BeginAnswer}
use Rattle.traffic_plan.specs.Load.{load_pair}
use Rattle.examples.specs.Queues.{IsQueueOn}

-- A fresh queue of a pair of a load may have its calls made.
pub fresh_is_on : (pair : Bridge) → pair.plan ≡ load_pair → IsQueueOn pair (fresh_queue load_pair A 0)
fresh_is_on pair same = record {
  plan = same;
  fits = record { queues = λ h. refl; windows = λ h. refl; sizes = (lit≤ tt, lit≤ tt) };
  room = omega arith;
  pages = record { writes = All-nil (IsLeftReady load_pair A (pages_of pair B)); flags = λ h. absurd (cc h); index_word = λ h. absurd (cc h) };
}

begun_plan : (queue : QueueState) (new : PortState) (refusal : Option BeginAnswer) (begun : Begun) → new.plan ≡ queue.port.plan → new.side ≡ queue.port.side
    → ((port_unless refusal queue (where_begun queue.port new begun)).port.plan ≡ queue.port.plan) × ((port_unless refusal queue (where_begun queue.port new begun)).port.side ≡ queue.port.side)
begun_plan queue new (Some refusal) begun plan side = (refl, refl)
begun_plan queue new None (BegunOk number) plan side = (plan, side)
begun_plan queue new None begun plan side = (refl, refl)

begin_plan : (queue : QueueState) (pair : Bridge) (frame : List ℕ) → ((queue_after_begin queue pair frame).port.plan ≡ queue.port.plan) × ((queue_after_begin queue pair frame).port.side ≡ queue.port.side)
begin_plan queue pair frame =
    begun_plan queue (port_frame_begun queue.port frame) (sender_refusal queue pair) (port_begin_answer queue.port pair (length frame)) refl refl

grown_spare : (pair : Bridge) (side : Side) (pages : List ℕ) (more : ℕ) → (flight_of (with_room (with_pages pair (other_side side) pages) side more) side).spare ≡ (flight_of pair side).spare + more
grown_spare pair A pages more = refl
grown_spare pair B pages more = refl

-- of numbers alone
still_room : (spare unused unused_after spare_after : ℕ) → unused ≤ spare → spare_after ≡ spare + (unused_after - unused) → unused_after ≤ spare_after
still_room spare unused unused_after spare_after room is = omega (arith, room, is)

-- A queue may have its calls made after a begin.
pub begin_is_on : (queue new : QueueState) (pair after : Bridge) (frame : List ℕ) (pages : List ℕ) → IsQueueOn pair queue → new ≡ queue_after_begin queue pair frame
    → after ≡ with_room (with_pages pair (other_side queue.port.side) pages) queue.port.side (unused_of new.port - unused_of queue.port)
    → (HasPagesIn queue.port pair → HasPagesIn new.port after) → IsQueueOn after new
begin_is_on queue new pair after frame pages is_on is rest ready =
    let plan : new.port.plan ≡ queue.port.plan = ap (λ (queue : QueueState). queue.port.plan) is ∙ (begin_plan queue pair frame).0 in
    let side : new.port.side ≡ queue.port.side = ap (λ (queue : QueueState). queue.port.side) is ∙ (begin_plan queue pair frame).1 in
    let spare = ap (λ (pair : Bridge). (flight_of pair queue.port.side).spare) rest ∙ grown_spare pair queue.port.side pages (unused_of new.port - unused_of queue.port) in
    let room : unused_of new.port ≤ (flight_of after queue.port.side).spare = still_room (flight_of pair queue.port.side).spare (unused_of queue.port) (unused_of new.port) (flight_of after queue.port.side).spare is_on.room spare in
    record {
      plan = ap (λ (pair : Bridge). pair.plan) rest ∙ is_on.plan ∙ sym plan;
      fits = subst FitsRings (sym plan) is_on.fits;
      room = subst (λ (side : Side). unused_of new.port ≤ (flight_of after side).spare) (sym side) room;
      pages = ready is_on.pages;
    }
