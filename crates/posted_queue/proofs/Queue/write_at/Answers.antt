use Rattle.std.proofs.Common.{slice_get, ap, sym, ◌∙◌}
use Rattle.posted_queue.proofs.TicketLemmas.{slice_get-kept, slice_get-none_kept}
use Rattle.posted_queue.proofs.Queue.write_at.Goals as goal

pub returns-in-Some : goal.returns-in-Some
returns-in-Some g c =
    c.get.ensures
    ∙ sym (slice_get-kept g.W.Ordered.order c.self.inside.writes.slots c.self.inside.tickets.writes c.args.place c.in-Some.ticket.now c.self.invariant.0 (sym c.in-Some.ensures.write))
    ∙ ap (λ flight. slice_get flight.writes c.args.place) c.self.view_is

pub returns-in-None : goal.returns-in-None
returns-in-None g c =
    sym (slice_get-none_kept g.W.Ordered.order c.self.inside.writes.slots c.self.inside.tickets.writes c.args.place c.self.invariant.0 (sym c.in-None.ensures.write))
    ∙ ap (λ flight. slice_get flight.writes c.args.place) c.self.view_is
