use Rattle.std.proofs.Common.{◌<◌, length}
use Rattle.std.specs.Prelude.{IfSome}
use Rattle.explore_search.proofs.ChainedStates.{past}
use Rattle.explore_search.proofs.known.lands_among.Given as goal

abbrev pub invariant-loop-last : goal.invariant-loop-last
invariant-loop-last g l = IfSome l.last (λ place. place < length l.states)

abbrev pub decreases-loop-last : goal.decreases-loop-last
decreases-loop-last g l = past l.last
