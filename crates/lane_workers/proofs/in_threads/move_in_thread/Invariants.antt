use Rattle.std.proofs.Common.{◌≡◌}
use Rattle.lane_workers.proofs.in_threads.move_in_thread.Given as goal

abbrev pub invariant-loop : goal.invariant-loop
invariant-loop g l = g.M.Worker.key l.mover ≡ g.M.Worker.key l.fn.mover
