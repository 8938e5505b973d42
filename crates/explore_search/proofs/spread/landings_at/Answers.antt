use Rattle.std.proofs.Common.{[], arith}
use Rattle.explore_search.proofs.Candidates.{added_in_order, all_pairs, pair_more}
use Rattle.explore_search.proofs.spread.landings_at.Goals as goal

pub loop-pair-preserved : goal.loop-pair-preserved
loop-pair-preserved g c =
    pair_more g.M.Machine.has_made c.args.plan.now c.args.done c.args.machine.now c.loop-pair.pair [] c.loop-pair.landings.items c.push_side.new.landings.items c.push_side-in-loop-pair.new.landings.items
    c.loop-pair.invariant c.in_ok-push_side.ensures c.in_ok-push_side-2.ensures

pub returns : goal.returns
returns g c =
    added_in_order g.M.Machine.has_made c.args.plan.now c.args.done c.args.machine.now (λ landing. Unit {0}) c.loop-pair.landings.items c.reverse.new.self.items c.reverse.ensures.permutation
    (all_pairs g.M.Machine.has_made c.args.plan.now c.args.done c.args.machine.now c.loop-pair.pair [] c.loop-pair.landings.items (omega (arith, c.len-pair-end.ensures)) c.loop-pair.invariant)
