-- The fields of a session: what it shows, and what is true of it between two rounds.
use Rattle.std.specs.Prelude.{◌≡◌, ℕ, ◌+◌, ◌≤◌, length}
use Rattle.step_kinds.specs.Limits.{most_traffic_entries}
use Rattle.cluster_run.specs.Workers.{SendingKey, SessionState, WorkerKey}
use Rattle.cluster_run.specs.declared.session.Session.TheInside.{Inside}

abbrev pub session_of : Inside → SessionState
session_of s = record {
  worker = s.team.giver.key.worker;
  entries = s.team.giver.key.entries;
  frames = s.team.giver.key.frames;
  got = s.team.taker.got;
  cut = s.team.cutter.cut;
}

-- the worker with this number after that of the sender, at its table
abbrev pub follower : ℕ → SendingKey → WorkerKey
follower number sender = record { worker = sender.worker + number; lane = sender.lane }

-- the workers stand at one table, numbered in a row, and the ring and the frames are counted beside them
pub record IsRunSession (s : Inside) : Type 0 where
  pub moves_there : s.team.mover.key ≡ follower 1 s.team.giver.key
  pub receives_there : s.team.taker.key ≡ follower 2 s.team.giver.key
  pub cuts_there : s.team.cutter.key ≡ follower 3 s.team.giver.key
  pub ring : (s.entries ≡ s.team.giver.key.entries) × (2 ≤ s.entries) × (s.entries ≤ most_traffic_entries)
  pub counted : s.total ≡ length s.team.giver.key.frames
