-- The end stands at its lane's table.
use Rattle.std.proofs.Common.{◌≡◌}
use Rattle.examples.proofs.of_ends.move_all.Given as goal

abbrev pub invariant-loop-turn : goal.invariant-loop-turn
invariant-loop-turn l = l.end.lane ≡ l.fn.end.lane
