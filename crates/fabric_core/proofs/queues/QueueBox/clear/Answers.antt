use Rattle.std.proofs.Common.{◌≡◌, ◌∙◌, ap, rules, arith}
use Rattle.std.proofs.lemmas.Grind.{common_steps}
use Rattle.frame_ring.specs.Calls.{port_after_clear}
use Rattle.queue_pair.specs.Queue.{with_port}
use Rattle.fabric_core.proofs.OneFlight.{clear_keeps}
use Rattle.fabric_core.proofs.Phases.{clear_goes_on}
use Rattle.fabric_core.proofs.QueueParts.{box_kept}
use Rattle.fabric_core.proofs.QueueCalls.{has_turned}
use Rattle.fabric_core.proofs.queues.QueueBox.clear.Goals as goal

pub invariant_of-self : goal.invariant_of-self
invariant_of-self c = box_kept c.self.inside c.clear.new.self _ c.self.invariant (c.clear.ensures.rest ∙ ap (with_port c.self.inside.queue) c.clear.ensures.port.after) (clear_goes_on c.self.inside.queue.port)

pub returns : goal.returns
returns c =
    let left : c.clear.new.self ≡ with_port c.self.inside.queue (port_after_clear c.self.inside.queue.port) = c.clear.ensures.rest ∙ ap (with_port c.self.inside.queue) c.clear.ensures.port.after in
    has_turned _ _ _ _ _ _ (first_of (search rules, grind (arith, common_steps))) (first_of (search rules, grind (arith, common_steps))) (first_of (search rules, grind (arith, common_steps)))
    (clear_keeps _ _ c.clear.new.self c.args.pair.now c.clear.new.pair c.self.view_is left c.clear.ensures.port.pair c.clear.ensures.port.ready c.requires.pages)
