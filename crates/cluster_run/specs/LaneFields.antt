-- The fields of a lane at work: what it shows, and what is true of it between two rounds.
use Rattle.std.specs.Prelude.{◌≡◌, ◌+◌, ◌*◌, ◌≤◌, ◌<◌, ◌==◌, ◌&&◌, not, List, [], ◌∷◌, ◌++◌, length, map}
use Rattle.step_kinds.specs.Limits.{most_breaks, most_traffic_frames, most_traffic_entries}
use Rattle.step_kinds.specs.Runs.{SessionShown, session_shown}
use Rattle.table_lane.specs.ShownLane.{most_lane_frames}
use Rattle.lane_workers.specs.Passes.{HaveBytes}
use Rattle.cluster_run.specs.Runs.{accepted_over}
use Rattle.cluster_run.specs.LaneKeys.{LaneKey, LaneState, cut_proofs}
use Rattle.cluster_run.specs.declared.tasks.LaneTask.TheInside as task
use Rattle.cluster_run.specs.declared.lanes.LaneWork.TheInside as work
use Rattle.cluster_run.specs.Lanes.{most_lanes}

-- a lane whose ring isn't open yet
abbrev pub key_of_task : task.Inside → LaneKey
key_of_task t = record { name = t.name; number = t.number; entries = t.entries; losses = t.losses; traffic = t.frames.frames }

pub record IsTask (t : task.Inside) : Type 0 where
  pub number : t.number < most_lanes
  pub ring : (2 ≤ t.entries) × (t.entries ≤ most_traffic_entries)
  pub bytes : HaveBytes t.frames.frames
  pub few : length t.frames.frames ≤ most_traffic_frames
  pub breaks : t.losses ≤ most_breaks

-- the sessions that ended
abbrev pub ended_of : work.Inside → List SessionShown
ended_of w = map session_shown w.runs.items

-- the losses are those of the sessions that ended and those ahead; the traffic is what was accepted and what the
-- session has to send
abbrev pub state_of : work.Inside → LaneState
state_of w = record {
  key = record { name = w.name; number = w.number; entries = w.entries; losses = length w.runs.items + w.ahead; traffic = accepted_over (ended_of w) ++ w.session.frames };
  numbers = w.number ∷ [];
  over = (w.ahead == 0) && (length w.session.got == length w.session.frames) && not w.session.cut;
}

-- there is a proof for each session that ended, each of which was cut
pub record IsWork (w : work.Inside) : Type 0 where
  pub number : (w.number < most_lanes) × (w.session.worker ≡ 4 * w.number)
  pub ring : (w.entries ≡ w.session.entries) × (2 ≤ w.entries) × (w.entries ≤ most_traffic_entries)
  pub few : length w.session.frames < most_lane_frames
  pub shown : w.proofs.items ≡ cut_proofs w.entries (ended_of w)
