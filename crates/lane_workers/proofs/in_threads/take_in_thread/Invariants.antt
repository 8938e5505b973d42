use Rattle.std.proofs.Common.{◌≡◌}
use Rattle.lane_workers.proofs.in_threads.take_in_thread.Given as goal

abbrev pub invariant-loop : goal.invariant-loop
invariant-loop g l = g.T.Worker.key l.taker ≡ g.T.Worker.key l.fn.taker
