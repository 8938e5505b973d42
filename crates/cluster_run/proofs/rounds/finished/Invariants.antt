use Rattle.std.proofs.Common.{◌≡◌, map}
use Rattle.cluster_run.proofs.rounds.finished.Given as goal

abbrev pub invariant-loop : goal.invariant-loop
invariant-loop g l = map g.W.RoundWork.key l.works.items ≡ map g.W.RoundWork.key l.fn.works.items
