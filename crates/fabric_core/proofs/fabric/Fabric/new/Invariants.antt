use Rattle.fabric_core.proofs.FreshFabrics.{AreFresh}
use Rattle.fabric_core.proofs.fabric.Fabric.new.Given as goal

abbrev pub invariant-loop-k : goal.invariant-loop-k
invariant-loop-k l = AreFresh l.fn.plan l.devs.items l.pairs.items l.k
