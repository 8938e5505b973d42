use Rattle.std.proofs.Common.{◌≡◌, ◌<◌, length, remove, ap, subst, sym, ◌∙◌}
use Rattle.posted_queue.specs.Landing.{land_answer, flight_after_landing}
use Rattle.posted_queue.specs.declared.LandAnswer.TheVariants.{Landed, Blocked}
use Rattle.posted_queue.proofs.LandingLemmas.{landed, blocked}
use Rattle.posted_queue.proofs.block_queue.BlockQueue.land_behind.Goals as goal

pub returns-in_default-clause-answer : goal.returns-in_default-clause-answer
returns-in_default-clause-answer g c =
    subst (λ flight. Blocked ≡ land_answer g.W.Ordered.order flight c.args.place) c.self.view_is
    (blocked g.W.Ordered.order c.self.inside.blocks.writes c.self.inside.spare c.args.place _ c.class_awaited_at-waits_for.ensures.lands (subst (λ flight. c.args.place < length flight.writes) (sym c.self.view_is) c.requires) c.in_default.ensures.held_back).0

pub returns-in_default-clause-after : goal.returns-in_default-clause-after
returns-in_default-clause-after g c =
    ap (λ blocks. record { writes = blocks.writes; spare = c.self.inside.spare }) c.in_default.ensures.rests
    ∙ subst (λ flight. record { writes = c.self.inside.blocks.writes; spare = c.self.inside.spare } ≡ flight_after_landing g.W.Ordered.order flight c.args.place) c.self.view_is
    (blocked g.W.Ordered.order c.self.inside.blocks.writes c.self.inside.spare c.args.place _ c.class_awaited_at-waits_for.ensures.lands (subst (λ flight. c.args.place < length flight.writes) (sym c.self.view_is) c.requires) c.in_default.ensures.held_back).1

pub returns-clause-answer : goal.returns-clause-answer
returns-clause-answer g c =
    subst (λ flight. Landed c.in-Some.write ≡ land_answer g.W.Ordered.order flight c.args.place) c.self.view_is
    (landed g.W.Ordered.order c.self.inside.blocks.writes c.self.inside.spare c.args.place c.in-Some.write _ c.class_awaited_at-waits_for.ensures.lands c.in-Some.ensures.write c.in-Some.ensures.held_back).0

pub returns-clause-after : goal.returns-clause-after
returns-clause-after g c =
    ap (λ writes. record { writes = writes; spare = c.self.inside.spare }) c.in-Some.ensures.writes
    ∙ subst (λ flight. record { writes = remove c.self.inside.blocks.writes c.args.place; spare = c.self.inside.spare } ≡ flight_after_landing g.W.Ordered.order flight c.args.place) c.self.view_is
    (landed g.W.Ordered.order c.self.inside.blocks.writes c.self.inside.spare c.args.place c.in-Some.write _ c.class_awaited_at-waits_for.ensures.lands c.in-Some.ensures.write c.in-Some.ensures.held_back).1
