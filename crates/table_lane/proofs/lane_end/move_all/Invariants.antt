use Rattle.std.proofs.Common.{◌≡◌, ◌-◌, length}
use Rattle.table_lane.specs.Views.{the_send, the_move, the_recv}
use Rattle.table_lane.specs.EndOfLane.{MovesNext, TableGoesOn}
use Rattle.table_lane.proofs.lane_end.move_all.Given as goal

abbrev pub invariant-loop-number : goal.invariant-loop-number
invariant-loop-number l = record {
  goes_on : TableGoesOn l.initial.seat.table_id l.seat.table_id l.initial.seat.me l.seat.me;
  recv : the_recv l.seat.me.0 ≡ the_recv l.initial.seat.me.0;
  next : MovesNext l.entries l.number (the_move l.seat.me.0);
}

abbrev pub decreases-loop-number : goal.decreases-loop-number
decreases-loop-number l = length (the_send l.initial.seat.me.0).sent - l.number
