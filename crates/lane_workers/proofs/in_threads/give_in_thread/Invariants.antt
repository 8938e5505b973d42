use Rattle.std.proofs.Common.{◌≡◌, ◌≤◌}
use Rattle.lane_workers.proofs.in_threads.give_in_thread.Given as goal

abbrev pub invariant-loop : goal.invariant-loop
invariant-loop g l = (g.S.Worker.key l.giver ≡ g.S.Worker.key l.fn.giver) × (g.S.Worker.reach l.fn.giver ≤ g.S.Worker.reach l.giver)
