use Rattle.fabric_core.proofs.SameParts.{SamePairsBefore}
use Rattle.fabric_core.proofs.fabric.are_same_pairs.Given as goal

abbrev pub invariant-loop-k : goal.invariant-loop-k
invariant-loop-k l = SamePairsBefore l.pairs l.others l.k
