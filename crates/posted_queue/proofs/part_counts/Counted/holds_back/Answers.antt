use Rattle.std.proofs.Common.{◌≡◌, nat_lt, get_or, ap, subst}
use Rattle.posted_queue.specs.Rows.{is_held_back}
use Rattle.posted_queue.proofs.CountLemmas.{tally-is_held_back}
use Rattle.posted_queue.proofs.part_counts.Counted.holds_back.Goals as goal

pub returns-in-Some : goal.returns-in-Some
returns-in-Some g c =
    subst (λ writes. nat_lt 0 (get_or c.self.inside.tally c.in-Some.class 0) ≡ is_held_back g.W.Ordered.order c.args.waits_for writes)
    (ap (λ flight. flight.writes) c.self.view_is)
    (tally-is_held_back g.W.Ordered.order (g.P.Part.state c.self.inside.part).writes c.self.inside.len c.self.inside.tally c.args.waits_for c.in-Some.class c.self.invariant c.in-Some.is (c.requires c.in-Some.class c.in-Some.is))
