use Rattle.std.proofs.Common.{inr, sym, ◌∙◌, arith}
use Rattle.posted_queue.proofs.RowLemmas.{held_back-at}
use Rattle.posted_queue.proofs.row.find_spot.Goals as goal

pub returns-then-holds_back-clause-none : goal.returns-then-holds_back-clause-none
returns-then-holds_back-clause-none g c =
    inr (held_back-at g.W.Ordered.order c.args.waits_for c.args.row.now c.loop-index.index c.args.place c.loop-index.left c.index-row-index.result (omega arith) c.index-row-index.is c.loop-index.invariant.adds_up (omega arith) (sym c.holds_back.ensures ∙ c.if-holds_back.true))
