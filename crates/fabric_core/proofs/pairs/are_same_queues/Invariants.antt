use Rattle.fabric_core.proofs.SameParts.{SamePartsBefore}
use Rattle.fabric_core.proofs.pairs.are_same_queues.Given as goal

abbrev pub invariant-loop-number : goal.invariant-loop-number
invariant-loop-number l = SamePartsBefore l.queues l.others l.number
