use Rattle.std.proofs.Common.{◌≢◌, ℕ, ◌<◌, get_or}
use Rattle.fabric_core.specs.Fabric.{no_state}
use Rattle.fabric_core.specs.Same.{IsSamePair}
use Rattle.fabric_core.proofs.fabric.are_same_but.Given as goal

abbrev pub invariant-loop-k : goal.invariant-loop-k
invariant-loop-k l = (k : ℕ) → k < l.k → k ≢ l.but → IsSamePair (get_or l.pairs k no_state) (get_or l.others k no_state)
