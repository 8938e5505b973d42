use Rattle.std.proofs.Common.{◌≡◌, ℕ, IsSome, arith, refl, ap, sym, subst, ◌∙◌}
use Rattle.order_rules.specs.Order.{Order}
use Rattle.posted_queue.specs.Flight.{Flight}
use Rattle.posted_queue.specs.declared.LandAnswer.{LandAnswer}
use Rattle.posted_queue.specs.Landing.{land_answer, flight_after_landing}
use Rattle.posted_queue.specs.Tickets.{AreTicketsKept, IsTicketKept}
use Rattle.posted_queue.proofs.TicketLanding.{LandsKept, lands_kept, landed-kept, blocks_kept, nothing_kept}
use Rattle.posted_queue.proofs.Queue.land.Goals as goal

-- what is so of the flight that the tickets represent is so of the one that the queue shows
as_shown : {W : Type 0} (order : W → Order) (place : ℕ) {kept shown now : Flight W} {answer : LandAnswer W} → kept ≡ shown → answer ≡ land_answer order kept place → now ≡ flight_after_landing order kept place
    → record { answer : answer ≡ land_answer order shown place; after : now ≡ flight_after_landing order shown place }
as_shown order place same answered left = record {
  answer = answered ∙ ap (λ flight. land_answer order flight place) same;
  after = left ∙ ap (λ flight. flight_after_landing order flight place) same;
}

pub remove-requires : goal.remove-requires
remove-requires g c =
    let is : IsTicketKept g.W.Ordered.order c.self.inside.writes.slots c.in-Landed.ticket = landed-kept g.W.Ordered.order c.self.inside.writes.slots c.self.inside.tickets c.args.place c.in-Landed.ticket c.self.invariant.0 c.in-Landed.ensures.answer in
    subst IsSome (sym is.there) refl

pub invariant_of-self-2 : goal.invariant_of-self-2
invariant_of-self-2 g c =
    let lands : LandsKept g.W.Ordered.order c.self.inside.writes c.remove.new.self c.self.inside.tickets c.land.new.self c.args.place c.remove.result =
    lands_kept g.W.Ordered.order c.self.inside.writes c.remove.new.self c.self.inside.tickets c.land.new.self c.args.place c.in-Landed.ticket c.remove.result c.self.invariant.0 c.in-Landed.ensures.answer c.in-Landed.ensures.after c.remove.ensures.value c.remove.ensures.updates in
    (lands.kept, (let same = lands.spare in let room = c.self.invariant.1 in let len = c.remove.ensures.len in let whole = c.remove.ensures.capacity in omega arith))

pub returns : goal.returns
returns g c =
    let lands : LandsKept g.W.Ordered.order c.self.inside.writes c.remove.new.self c.self.inside.tickets c.land.new.self c.args.place c.remove.result =
    lands_kept g.W.Ordered.order c.self.inside.writes c.remove.new.self c.self.inside.tickets c.land.new.self c.args.place c.in-Landed.ticket c.remove.result c.self.invariant.0 c.in-Landed.ensures.answer c.in-Landed.ensures.after c.remove.ensures.value c.remove.ensures.updates in
    as_shown g.W.Ordered.order c.args.place c.self.view_is lands.answer lands.after

pub returns-in-Blocked : goal.returns-in-Blocked
returns-in-Blocked g c =
    let blocks = blocks_kept g.W.Ordered.order c.self.inside.writes.slots c.self.inside.tickets c.land.new.self c.args.place c.self.invariant.0 c.in-Blocked.ensures.answer c.in-Blocked.ensures.after in
    as_shown g.W.Ordered.order c.args.place c.self.view_is blocks.0 blocks.1

pub invariant_of-self-in-Nothing : goal.invariant_of-self-in-Nothing
invariant_of-self-in-Nothing g c =
    let stays : c.land.new.self ≡ c.self.inside.tickets =
    (nothing_kept g.W.Ordered.order c.self.inside.writes.slots c.self.inside.tickets c.land.new.self c.args.place c.self.invariant.0 c.in-Nothing.ensures.answer c.in-Nothing.ensures.after).2 in
    let same : c.land.new.self.spare ≡ c.self.inside.tickets.spare = ap (λ flight. flight.spare) stays in
    (subst (λ flight. AreTicketsKept g.W.Ordered.order c.self.inside.writes.slots flight.writes) (sym stays) c.self.invariant.0, (let room = c.self.invariant.1 in omega arith))

pub returns-in-Nothing : goal.returns-in-Nothing
returns-in-Nothing g c =
    let nothing = nothing_kept g.W.Ordered.order c.self.inside.writes.slots c.self.inside.tickets c.land.new.self c.args.place c.self.invariant.0 c.in-Nothing.ensures.answer c.in-Nothing.ensures.after in
    as_shown g.W.Ordered.order c.args.place c.self.view_is nothing.0 nothing.1
