use Rattle.std.proofs.Common.{◌≡◌, ◌-◌, drop, length}
use Rattle.posted_queue.specs.Rows.{row_writes_in}
use Rattle.posted_queue.proofs.row.first_with_write.Given as goal

abbrev pub invariant-loop-index : goal.invariant-loop-index
invariant-loop-index g l = row_writes_in (drop l.index l.row) ≡ row_writes_in l.row

abbrev pub decreases-loop-index : goal.decreases-loop-index
decreases-loop-index g l = length l.row - l.index
