-- The fields of a lane's workers: what each shows, and what is true of it between two passes.
use Rattle.std.specs.Prelude.{◌≡◌, ◌<◌, ◌+◌, ◌++◌, length}
use Rattle.table_lane.specs.ShownLane.{most_lane_frames}
use Rattle.table_lane.specs.Tries.{tries}
use Rattle.lane_workers.specs.Passes.{HaveBytes}
use Rattle.cluster_run.specs.Workers.{SendingShown, MovingShown, ReceivingShown, CuttingShown}
use Rattle.cluster_run.specs.declared.workers.Sending.TheInside as sending
use Rattle.cluster_run.specs.declared.workers.Moving.TheInside as moving
use Rattle.cluster_run.specs.declared.workers.Receiving.TheInside as receiving
use Rattle.cluster_run.specs.declared.workers.Cutting.TheInside as cutting

abbrev pub sending_of : sending.Inside → SendingShown
sending_of w = record {
  key = record { worker = w.clock.worker; lane = w.end.lane; entries = w.end.part.entries; frames = w.end.part.sent ++ w.todo.frames };
  turn = w.clock.turn;
  left = length w.todo.frames;
  loads = w.end.part.link_loads;
}

-- each frame that is to be sent has a byte, and the frames are so few that they can be numbered
pub record IsSending (w : sending.Inside) : Type 0 where
  pub bytes : HaveBytes w.todo.frames
  pub counted : length w.end.part.sent + length w.todo.frames < most_lane_frames

abbrev pub moving_of : moving.Inside → MovingShown
moving_of w = record { key = record { worker = w.clock.worker; lane = w.mover.lane }; turn = w.clock.turn; tries = tries w.mover.part; loads = w.back.part.loads }

-- the mover and the way back stand at one table
abbrev pub IsMoving : moving.Inside → Type 0
IsMoving w = w.back.lane ≡ w.mover.lane

abbrev pub receiving_of : receiving.Inside → ReceivingShown
receiving_of w = record {
  key = record { worker = w.clock.worker; lane = w.end.lane };
  turn = w.clock.turn;
  got = w.got.frames;
  spare = w.got.spare;
  loads = w.end.part.loads;
}

-- what was received stands in the list, which has room for this many frames in all
pub record IsReceiving (w : receiving.Inside) : Type 0 where
  pub received : w.got.frames ≡ w.end.part.got
  pub room : w.got.spare + length w.got.frames ≡ w.room

abbrev pub cutting_of : cutting.Inside → CuttingShown
cutting_of w = record { key = record { worker = w.clock.worker; lane = w.end.lane }; turn = w.clock.turn; cut = w.end.part.cut }

-- whether the link was cut is kept beside the end
abbrev pub IsCutting : cutting.Inside → Type 0
IsCutting w = w.end.part.cut ≡ w.is_cut
