-- Both ends stand at their lane's table.
use Rattle.std.proofs.Common.{◌≡◌}
use Rattle.examples.proofs.lane_threads.move_all.Given as goal

abbrev pub invariant-loop-turn : goal.invariant-loop-turn
invariant-loop-turn l = record {
  mover : l.mover.lane ≡ l.fn.mover.lane;
  back : l.back.lane ≡ l.fn.back.lane;
}
