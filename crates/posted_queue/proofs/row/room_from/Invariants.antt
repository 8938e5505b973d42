use Rattle.std.proofs.Common.{◌≡◌, ◌-◌, min, ◌^◌, take, drop}
use Rattle.posted_queue.specs.Rows.{row_room_in}
use Rattle.posted_queue.proofs.row.room_from.Given as goal

abbrev pub invariant-loop-index : goal.invariant-loop-index
invariant-loop-index g l = l.room ≡ min (2 ^ 64 - 1) (row_room_in (drop l.from (take l.index l.row)))
