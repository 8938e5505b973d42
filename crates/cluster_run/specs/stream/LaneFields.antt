-- The fields of a stream at work: what it shows, and what is true of it between two rounds.
use Rattle.std.specs.Prelude.{◌≡◌, ℕ, ◌+◌, ◌*◌, ◌≤◌, ◌<◌, ◌^◌, ◌==◌, ◌&&◌, not, true, List, [], ◌∷◌, length, fold}
use Rattle.std.specs.List.{All, flat_map}
use Rattle.step_kinds.specs.Limits.{most_traffic_entries}
use Rattle.stream_model.specs.Receiver.{new_receiver}
use Rattle.stream_model.specs.Resumed.{AreSessionsOf, Exchange, IsStreamInOrder, acked_by, after_session}
use Rattle.stream_model.specs.declared.Session.TheVariants.{Fresh}
use Rattle.table_lane.specs.EndOfLane.{Shown}
use Rattle.cluster_run.specs.LaneKeys.{LaneState}
use Rattle.cluster_run.specs.Lanes.{most_lanes}
use Rattle.cluster_run.specs.stream.Streams.{exchange_proofs}
use Rattle.cluster_run.specs.stream.Workers.{SessionKey, first_workers}
use Rattle.cluster_run.specs.declared.stream.numbers.LaneNumbers.{LaneNumbers}
use Rattle.cluster_run.specs.declared.stream.lanes.StreamWork.TheInside as work

abbrev pub stream_state_of : work.Inside → LaneState
stream_state_of w = record {
  key = record { name = w.name; number = w.numbers.items; entries = w.entries; losses = w.losses; traffic = w.session.key.items };
  numbers = w.numbers.items ∷ w.numbers.acks ∷ [];
  over = (w.ahead == 0) && (w.session.kept == length w.session.key.items) && not w.session.cut;
}

-- the proofs of sessions that were all cut
abbrev pub stream_cut_proofs : ℕ → List Exchange → List Shown
stream_cut_proofs entries sessions = flat_map (exchange_proofs entries true) sessions

-- sessions of a stream ended, and a session goes on from there, in which this number of items was ever given
pub record GoesFrom (sessions : List Exchange) (key : SessionKey) (given : ℕ) : Type 0 where
  pub are : AreSessionsOf key.items sessions
  pub in_order : All IsStreamInOrder sessions
  pub kept : fold after_session new_receiver sessions ≡ record { items = key.before; session = Fresh }
  pub acked : key.start ≡ acked_by sessions
  pub ever : length key.before ≤ given

-- the lanes of a stream are numbered below twice the lanes that a plan may have
abbrev pub HaveNumbers : LaneNumbers → Type 0
HaveNumbers numbers = (numbers.items < most_lanes) × (numbers.acks < 2 * most_lanes)

-- there are two proofs for each session that ended, each of which was cut
pub record IsStreamWork (w : work.Inside) : Type 0 where
  pub sessions : List Exchange
  pub numbers : HaveNumbers w.numbers
  pub numbered : w.session.first ≡ first_workers w.numbers
  pub ring : (w.entries ≡ w.session.key.entries) × (2 ≤ w.entries) × (w.entries ≤ most_traffic_entries)
  pub losses : length sessions + w.ahead ≡ w.losses
  pub few : w.losses + 1 < 2 ^ 32
  pub shown : w.proofs.items ≡ stream_cut_proofs w.entries sessions
  pub goes : GoesFrom sessions w.session.key w.session.ever
