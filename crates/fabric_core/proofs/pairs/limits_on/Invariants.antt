use Rattle.fabric_core.proofs.FreshQueues.{NoneOn}
use Rattle.fabric_core.proofs.pairs.limits_on.Given as goal

abbrev pub invariant-loop-dev : goal.invariant-loop-dev
invariant-loop-dev l = NoneOn l.devs l.k l.side l.queue l.dev-index
