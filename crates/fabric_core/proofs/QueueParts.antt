-- A queue's part of a pair, put together.
use Rattle.std.proofs.Common.{◌≡◌, ◌∙◌, ℕ, ◌+◌, true, List, refl, sym, ap, arith}
use Rattle.step_kinds.specs.declared.lanes.LaneCopy.{LaneCopy}
use Rattle.step_kinds.specs.declared.lanes.LaneCopy.TheVariants.{Whole}
use Rattle.step_kinds.specs.declared.plan.Counters.{Counters}
use Rattle.lane_model.specs.Tests.{is_copying}
use Rattle.pair_model.specs.Device.{Flow}
use Rattle.bridge_pair.specs.Bridge.{Bridge, flight_of}
use Rattle.frame_ring.specs.Calls.{port_after_copy}
use Rattle.frame_ring.specs.Port.{PortState, unused_of}
use Rattle.frame_ring.specs.PortView.{HasPagesIn}
use Rattle.frame_ring.proofs.Facade.{unused_copied}
use Rattle.queue_pair.specs.Queue.{QueueState}
use Rattle.queue_pair.specs.declared.BeginAnswer.{BeginAnswer}
use Rattle.queue_pair.specs.declared.BeginAnswer.TheVariants.{Ok as IsBegun}
use Rattle.fabric_rule.specs.Answers.{of_begin}
use Rattle.fabric_rule.specs.Parts.{QueuePart, SessionCount}
use Rattle.fabric_core.specs.Parts.{KeepsPort}
use Rattle.fabric_core.specs.QueueBoxes.{IsQueueBox}
use Rattle.fabric_core.specs.declared.queues.QueueBox.TheInside.{Inside}
use Rattle.fabric_core.proofs.PromisesOfQueues.{keeps_exact}
use Rattle.fabric_core.proofs.Phases.{copy_place}
use Rattle.fabric_rule.specs.Turns.{accepted_where_begun, delivered_where_whole}

abbrev pub part_with : QueueState → Flow → Counters → List SessionCount → List SessionCount → QueuePart
part_with queue flow counters accepted delivered = record { queue = queue; flow = flow; counters = counters; accepted = accepted; delivered = delivered }

-- Parts with equal queues, flows, counters and counts of accepted and delivered frames are equal.
pub same_part : (queue queue' : QueueState) (flow flow' : Flow) (counters counters' : Counters) (accepted accepted' delivered delivered' : List SessionCount)
    → queue ≡ queue' → flow ≡ flow' → counters ≡ counters' → accepted ≡ accepted' → delivered ≡ delivered'
    → part_with queue flow counters accepted delivered ≡ part_with queue' flow' counters' accepted' delivered'
same_part queue queue' flow flow' counters counters' accepted accepted' delivered delivered' q f c a d = λ i. part_with (q i) (f i) (c i) (a i) (d i)

-- a queue box whose queue copies only if it did before has the room that it needs
pub box_kept : (kept : Inside) (new next : QueueState) → IsQueueBox kept → new ≡ next → (is_copying next.port.receiving.phase ≡ true → is_copying kept.queue.port.receiving.phase ≡ true)
    → IsQueueBox (record kept { queue = new })
box_kept kept new next law is goes_on =
    let same = ap (λ (queue : QueueState). is_copying queue.port.receiving.phase) is in
    record { room = λ later. law.room (goes_on (sym same ∙ later)); numbers = λ later. law.numbers (goes_on (sym same ∙ later)) }

-- If a copy is answered with no whole frame, nothing is counted as delivered, and the part is as it was.
pub not_whole : (copy : LaneCopy) (session : ℕ) (part : QueuePart) → ((number : ℕ) (frame : List ℕ) → copy ≡ Whole number frame → ⊥)
    → delivered_where_whole copy session part ≡ part
not_whole (Whole number frame) session part other = absurd (other number frame refl)
not_whole copy session part other = refl

-- of numbers alone
same_room : (spare unused unused_after : ℕ) → unused_after ≡ unused → spare + unused ≡ spare + unused_after
same_room spare unused unused_after e = omega (arith, e)

-- A copy, which leaves the bridge as it is, keeps all that was promised, if its port has its pages after it.
pub keeps_copy : (port : PortState) (bridge : Bridge) → HasPagesIn (port_after_copy port bridge) bridge → KeepsPort port (port_after_copy port bridge) bridge bridge
keeps_copy port bridge ready =
    keeps_exact port (port_after_copy port bridge) bridge bridge (copy_place port bridge) refl (λ any. refl)
    (same_room (flight_of bridge port.side).spare (unused_of port) (unused_of (port_after_copy port bridge)) (unused_copied port bridge))
    refl ready

-- If a begin is refused, no frame is counted as accepted, and the part of the queue is as it was.
pub not_begun : (answer : BeginAnswer) (session : ℕ) (part : QueuePart) → ((number : ℕ) → answer ≡ IsBegun number → ⊥)
    → accepted_where_begun (of_begin answer) session part ≡ part
not_begun (IsBegun number) session part other = absurd (other number refl)
not_begun answer session part other = refl
