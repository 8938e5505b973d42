use Rattle.std.proofs.Common.{◌≡◌, ◌<◌}
use Rattle.explore_search.specs.Spread.{AreAdded}
use Rattle.explore_search.proofs.spread.push_side.Given as goal

abbrev pub invariant-loop-place : goal.invariant-loop-place
invariant-loop-place g l =
    AreAdded g.M.Machine.has_made l.plan l.done l.machine (λ landing. (landing.pair ≡ l.pair) × (landing.side ≡ l.side) × (landing.place < l.place)) l.fn.landings.items l.landings.items
