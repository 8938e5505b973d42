use Rattle.std.proofs.Common.{◌≡◌, arith, ap, ◌∙◌}
use Rattle.posted_queue.specs.Flight.{posted}
use Rattle.posted_queue.proofs.TicketLemmas.{PostsKept, posts_kept}
use Rattle.posted_queue.proofs.Queue.push.Goals as goal

pub invariant_of-self : goal.invariant_of-self
invariant_of-self g c =
    let posts : PostsKept g.W.Ordered.order c.self.inside.writes c.insert_reserved-key.new.self c.self.inside.tickets c.push.new.self c.args.write =
    posts_kept g.W.Ordered.order c.self.inside.writes c.insert_reserved-key.new.self c.self.inside.tickets c.push.new.self c.new.result c.insert_reserved-key.result c.args.write c.self.invariant.0 c.insert_reserved-key.ensures.was_vacant c.insert_reserved-key.ensures.updates c.new.ensures.key (c.new.ensures.kind ∙ c.kind-kind.ensures.value) (c.new.ensures.class ∙ c.class-class.ensures.value) c.push.ensures in
    let was : c.self.inside.tickets.spare ≡ c.args.self.now.spare = ap (λ flight. flight.spare) c.self.view_is in
    (posts.kept, (let less = posts.spare in let room = c.self.invariant.1 in let len = c.insert_reserved-key.ensures.len in let same = c.insert_reserved-key.ensures.capacity in omega arith))

pub returns : goal.returns
returns g c =
    let posts : PostsKept g.W.Ordered.order c.self.inside.writes c.insert_reserved-key.new.self c.self.inside.tickets c.push.new.self c.args.write =
    posts_kept g.W.Ordered.order c.self.inside.writes c.insert_reserved-key.new.self c.self.inside.tickets c.push.new.self c.new.result c.insert_reserved-key.result c.args.write c.self.invariant.0 c.insert_reserved-key.ensures.was_vacant c.insert_reserved-key.ensures.updates c.new.ensures.key (c.new.ensures.kind ∙ c.kind-kind.ensures.value) (c.new.ensures.class ∙ c.class-class.ensures.value) c.push.ensures in
    posts.after ∙ ap (λ flight. posted flight c.args.write) c.self.view_is
