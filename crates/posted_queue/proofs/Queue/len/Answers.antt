use Rattle.std.proofs.Common.{length, ap, sym, ◌∙◌}
use Rattle.posted_queue.proofs.TicketLemmas.{length-kept}
use Rattle.posted_queue.proofs.Queue.len.Goals as goal

pub returns : goal.returns
returns g c =
    c.len.ensures
    ∙ sym (length-kept g.W.Ordered.order c.self.inside.writes.slots c.self.inside.tickets.writes c.self.invariant.0)
    ∙ ap (λ flight. length flight.writes) c.self.view_is
