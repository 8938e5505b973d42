use Rattle.std.proofs.Common.{◌≡◌, ◌∙◌, ap, rules, arith}
use Rattle.std.proofs.lemmas.Grind.{common_steps}
use Rattle.frame_ring.specs.Calls.{port_after_ack}
use Rattle.queue_pair.specs.Queue.{with_port}
use Rattle.fabric_core.proofs.OneFlight.{ack_flight, flight_keeps}
use Rattle.fabric_core.proofs.Phases.{ack_goes_on, ack_place}
use Rattle.fabric_core.proofs.QueueParts.{box_kept}
use Rattle.fabric_core.proofs.QueueCalls.{has_turned}
use Rattle.fabric_core.proofs.queues.QueueBox.ack.Goals as goal

pub invariant_of-self : goal.invariant_of-self
invariant_of-self c = box_kept c.self.inside c.ack.new.self _ c.self.invariant (c.ack.ensures.rest ∙ ap (with_port c.self.inside.queue) c.ack.ensures.port.after) (ack_goes_on c.self.inside.queue.port)

pub returns : goal.returns
returns c =
    let left : c.ack.new.self ≡ with_port c.self.inside.queue (port_after_ack c.self.inside.queue.port) = c.ack.ensures.rest ∙ ap (with_port c.self.inside.queue) c.ack.ensures.port.after in
    has_turned _ _ _ _ _ _ (first_of (search rules, grind (arith, common_steps))) (first_of (search rules, grind (arith, common_steps))) (first_of (search rules, grind (arith, common_steps)))
    (flight_keeps _ _ c.ack.new.self _ c.args.pair.now c.ack.new.pair _ c.self.view_is left (ack_place c.self.inside.queue.port) c.ack.ensures.port.pair
    (ack_flight c.self.inside.queue.port c.args.pair.now) c.ack.ensures.port.spare c.ack.ensures.port.ready c.requires.pages)
