use Rattle.std.proofs.Common.{map, ap, sym, ◌∙◌}
use Rattle.order_rules.specs.Order.{may_land}
use Rattle.posted_queue.proofs.TicketLemmas.{orders-kept}
use Rattle.posted_queue.proofs.Queue.may_land.Goals as goal

pub returns : goal.returns
returns g c =
    c.may_land.ensures
    ∙ sym (ap (λ orders. may_land orders c.args.place) (orders-kept g.W.Ordered.order c.self.inside.writes.slots c.self.inside.tickets.writes c.self.invariant.0))
    ∙ ap (λ flight. may_land (map g.W.Ordered.order flight.writes) c.args.place) c.self.view_is
