use Rattle.std.proofs.Common.{◌≡◌, length}
use Rattle.table_lane.proofs.mover.MoveEnd.settle.Given as goal

abbrev pub invariant-loop : goal.invariant-loop
invariant-loop l = l.self.lane ≡ l.initial.self.lane

abbrev pub decreases-loop : goal.decreases-loop
decreases-loop l = length l.self.part.held
