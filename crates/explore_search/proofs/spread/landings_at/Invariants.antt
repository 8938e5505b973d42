use Rattle.std.proofs.Common.{◌<◌, []}
use Rattle.explore_search.specs.Spread.{AreAdded}
use Rattle.explore_search.proofs.spread.landings_at.Given as goal

abbrev pub invariant-loop-pair : goal.invariant-loop-pair
invariant-loop-pair g l = AreAdded g.M.Machine.has_made l.plan l.done l.machine (λ landing. landing.pair < l.pair) [] l.landings.items
