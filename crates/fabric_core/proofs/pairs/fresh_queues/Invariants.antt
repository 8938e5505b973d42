use Rattle.fabric_core.proofs.FreshQueues.{AreFreshBelow}
use Rattle.fabric_core.proofs.pairs.fresh_queues.Given as goal

abbrev pub invariant-loop-queue : goal.invariant-loop-queue
invariant-loop-queue l = AreFreshBelow l.devs l.plan l.k l.side l.queues.items l.queue
