-- The fields of a session: what it shows, and what is true of it between two rounds.
use Rattle.std.specs.Prelude.{◌≡◌, ◌≤◌, length}
use Rattle.step_kinds.specs.Limits.{most_traffic_entries}
use Rattle.cluster_run.specs.stream.Workers.{StreamSessionState, after_first}
use Rattle.cluster_run.specs.declared.stream.session.Session.TheInside.{Inside}

abbrev pub stream_session_of : Inside → StreamSessionState
stream_session_of s = record {
  first = record { items = s.team.giver.key.workers.items; acks = s.team.taker.key.workers.acks };
  key = record { entries = s.team.giver.key.entries; items = s.team.giver.key.items; start = s.team.giver.key.start; before = s.team.taker.key.before };
  ever = s.team.giver.ever;
  kept = s.team.taker.kept;
  cut = s.team.cutter.cut;
}

-- the workers stand at two tables, numbered in a row on each lane, and the rings and the items are counted beside them
pub record IsStreamSession (s : Inside) : Type 0 where
  pub moves_there : s.team.mover.key.lane ≡ s.team.giver.key.lane
  pub keeps_there : s.team.taker.key.lane ≡ s.team.giver.key.lane
  pub cuts_there : s.team.cutter.key.lane ≡ s.team.giver.key.lane
  pub moves_acks : s.team.mover.key.ack_lane ≡ s.team.taker.key.ack_lane
  pub gets_acks : s.team.giver.key.ack_lane ≡ s.team.taker.key.ack_lane
  pub cuts_acks : s.team.cutter.key.ack_lane ≡ s.team.taker.key.ack_lane
  pub gives_as : s.team.giver.key.workers ≡ after_first (stream_session_of s).first 0 2
  pub moves_as : s.team.mover.key.workers ≡ after_first (stream_session_of s).first 1 1
  pub keeps_as : s.team.taker.key.workers ≡ after_first (stream_session_of s).first 2 0
  pub cuts_as : s.team.cutter.key.workers ≡ after_first (stream_session_of s).first 3 3
  pub ring : (s.entries ≡ s.team.giver.key.entries) × (s.entries ≡ s.team.taker.key.entries) × (2 ≤ s.entries) × (s.entries ≤ most_traffic_entries)
  pub counted : s.total ≡ length s.team.giver.key.items
