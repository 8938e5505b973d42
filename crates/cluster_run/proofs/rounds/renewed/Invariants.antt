use Rattle.std.proofs.Common.{◌≡◌, map}
use Rattle.cluster_run.proofs.rounds.renewed.Given as goal

abbrev pub invariant-loop-work : goal.invariant-loop-work
invariant-loop-work g l = map g.W.RoundWork.key l.next.items ≡ map g.W.RoundWork.key l.yielded
