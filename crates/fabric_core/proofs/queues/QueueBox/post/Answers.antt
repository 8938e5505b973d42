use Rattle.std.proofs.Common.{◌≡◌, ◌∙◌, ap, rules, arith}
use Rattle.std.proofs.lemmas.Grind.{common_steps}
use Rattle.frame_ring.specs.Calls.{port_after_post}
use Rattle.queue_pair.specs.Queue.{with_port}
use Rattle.fabric_core.proofs.OneFlight.{flight_keeps, post_flight}
use Rattle.fabric_core.proofs.Phases.{post_place}
use Rattle.fabric_core.proofs.QueueCalls.{has_turned}
use Rattle.fabric_core.proofs.queues.QueueBox.post.Goals as goal

pub returns : goal.returns
returns c =
    let left : c.post.new.self ≡ with_port c.self.inside.queue (port_after_post c.self.inside.queue.port) = c.post.ensures.rest ∙ ap (with_port c.self.inside.queue) c.post.ensures.port.after in
    has_turned _ _ _ _ _ _ (first_of (search rules, grind (arith, common_steps))) (first_of (search rules, grind (arith, common_steps))) (first_of (search rules, grind (arith, common_steps)))
    (flight_keeps _ _ c.post.new.self _ c.args.pair.now c.post.new.pair _ c.self.view_is left (post_place c.self.inside.queue.port) c.post.ensures.port.pair
    (post_flight c.self.inside.queue.port c.args.pair.now) c.post.ensures.port.spare c.post.ensures.port.ready c.requires.pages)
