-- What the record of a threaded run says: the lists of its lanes, level by level.
use Rattle.std.specs.Prelude.{ℕ, List, ◌++◌, map}
use Rattle.step_kinds.specs.declared.names.LaneName.{LaneName}
use Rattle.step_kinds.specs.declared.runs.SessionRun.{SessionRun}
use Rattle.step_kinds.specs.declared.runs.LaneRun.{LaneRun}
use Rattle.step_kinds.specs.declared.runs.RunRecord.{RunRecord}

-- the frames that one session delivered, and those that it accepted and didn't deliver
pub record SessionShown : Type 0 where
  pub delivered : List (List ℕ)
  pub left : List (List ℕ)

-- a lane and its sessions in order
pub record LaneShown : Type 0 where
  pub name : LaneName
  pub sessions : List SessionShown

-- what a session's record says, promised room left out
abbrev pub session_shown : SessionRun → SessionShown
session_shown session = record { delivered = session.delivered.frames; left = session.left.frames }

-- what a lane's record says
abbrev pub lane_shown : LaneRun → LaneShown
lane_shown lane = record { name = lane.name; sessions = map session_shown lane.sessions }

-- what a run's record says: two records are the same run where this is the same
abbrev pub run_shown : RunRecord → List LaneShown
run_shown run = map lane_shown run.lanes

-- the frames that a session accepted, in order
abbrev pub accepted_in : SessionShown → List (List ℕ)
accepted_in session = session.delivered ++ session.left
