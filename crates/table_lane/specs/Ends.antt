-- What contracts see of the ends: the table that they stand at, and what they know.
use Rattle.std.specs.Prelude.{Some}
use Rattle.atomic_table.specs.Seated.{TableId}
use Rattle.table_lane.specs.declared.parts.SendPart.{SendPart}
use Rattle.table_lane.specs.declared.parts.MovePart.{MovePart}
use Rattle.table_lane.specs.declared.parts.RecvPart.{RecvPart}
use Rattle.table_lane.specs.declared.parts.BackPart.{BackPart}
use Rattle.table_lane.specs.declared.parts.CutPart.{CutPart}
use Rattle.table_lane.specs.declared.parts.LaneView.{LaneView}
use Rattle.table_lane.specs.Views.{no_parts}

pub record TableSender : Type 0 where
  pub lane : TableId
  pub part : SendPart

pub record Mover : Type 0 where
  pub lane : TableId
  pub part : MovePart

pub record TableReceiver : Type 0 where
  pub lane : TableId
  pub part : RecvPart

pub record WayBack : Type 0 where
  pub lane : TableId
  pub part : BackPart

pub record Cutter : Type 0 where
  pub lane : TableId
  pub part : CutPart

-- the views of seats that have one part
abbrev pub send_only : SendPart → LaneView
send_only part = record no_parts { send = Some part }

abbrev pub move_only : MovePart → LaneView
move_only part = record no_parts { mover = Some part }

abbrev pub recv_only : RecvPart → LaneView
recv_only part = record no_parts { recv = Some part }

abbrev pub back_only : BackPart → LaneView
back_only part = record no_parts { back = Some part }

abbrev pub cut_only : CutPart → LaneView
cut_only part = record no_parts { cut = Some part }
