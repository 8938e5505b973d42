use Rattle.std.proofs.Common.{◌≡◌, ◌+◌, ◌-◌, ◌++◌, length}
use Rattle.table_lane.specs.Views.{the_send, the_move, the_recv}
use Rattle.table_lane.specs.RecvAnswers.{IsReady}
use Rattle.table_lane.specs.EndOfLane.{TableGoesOn}
use Rattle.table_lane.proofs.lane_end.drain.Given as goal

abbrev pub invariant-loop-frame : goal.invariant-loop-frame
invariant-loop-frame l = record {
  goes_on : TableGoesOn l.initial.seat.table_id l.seat.table_id l.initial.seat.me l.seat.me;
  mover : the_move l.seat.me.0 ≡ the_move l.initial.seat.me.0;
  ready : IsReady l.entries l.number (the_recv l.seat.me.0);
  got : (the_recv l.seat.me.0).got ≡ (the_recv l.initial.seat.me.0).got ++ l.left.frames;
  room : l.left.spare + length l.left.frames ≡ l.initial.left.spare;
}

abbrev pub decreases-loop-frame : goal.decreases-loop-frame
decreases-loop-frame l = length (the_send l.initial.seat.me.0).sent - l.number
