use Rattle.std.proofs.Common.{arith}
use Rattle.explore_search.proofs.Candidates.{all_of_side, one_more}
use Rattle.explore_search.proofs.spread.push_side.Goals as goal

pub loop-place-preserved : goal.loop-place-preserved
loop-place-preserved g c =
    one_more g.M.Machine.has_made c.args.plan.now c.args.done c.args.machine.now c.args.pair c.args.side c.loop-place.place c.args.landings.now.items c.loop-place.landings.items c.push.new.self.items
    c.requires.pair (omega (arith, c.min-count.ensures)) c.in_ok-push.ensures.items c.loop-place.invariant

pub returns : goal.returns
returns g c =
    all_of_side g.M.Machine.has_made c.args.plan.now c.args.done c.args.machine.now c.args.pair c.args.side c.in_flight.result c.loop-place.place c.args.landings.now.items c.loop-place.landings.items
    (omega (arith, c.min-count.ensures)) (λ steps place has from. c.in_flight.ensures c.args.plan.now steps place has from) c.loop-place.invariant
