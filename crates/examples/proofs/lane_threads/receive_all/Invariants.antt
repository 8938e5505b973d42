-- The end stands at its lane's table.
use Rattle.std.proofs.Common.{◌≡◌}
use Rattle.examples.proofs.lane_threads.receive_all.Given as goal

abbrev pub invariant-loop : goal.invariant-loop
invariant-loop l = l.end.lane ≡ l.fn.end.lane
