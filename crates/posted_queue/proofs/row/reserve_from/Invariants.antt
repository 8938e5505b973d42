use Rattle.std.proofs.Common.{◌≤◌, ◌+◌, ◌-◌, min, take, drop, length}
use Rattle.posted_queue.specs.Rows.{KeepsWrites, row_room_in, left_in}
use Rattle.posted_queue.proofs.row.reserve_from.Given as goal

abbrev pub invariant-loop-number : goal.invariant-loop-number
invariant-loop-number g l = record {
  kept : KeepsWrites g.P.Part.most l.fn.row.items l.row.items;
  there : l.number ≤ length l.row.items;
  room : l.room ≤ row_room_in (drop l.from (take l.number l.row.items));
  enough : min l.more (left_in g.P.Part.most (64 - l.from) (drop l.from l.fn.row.items)) ≤ l.room + left_in g.P.Part.most (64 - l.number) (drop l.number l.row.items);
}
