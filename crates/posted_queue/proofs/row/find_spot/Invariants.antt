use Rattle.std.proofs.Common.{◌≡◌, ◌+◌, false, take, length}
use Rattle.posted_queue.specs.Rows.{is_held_back, row_writes_in}
use Rattle.posted_queue.proofs.row.find_spot.Given as goal

abbrev pub invariant-loop-index : goal.invariant-loop-index
invariant-loop-index g l = record {
  adds_up : l.place ≡ length (row_writes_in (take l.index l.row)) + l.left;
  free : is_held_back g.W.Ordered.order l.waits_for (row_writes_in (take l.index l.row)) ≡ false;
}
