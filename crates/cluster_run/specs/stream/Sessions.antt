-- A session of a stream, as it begins and as it ends.
use Rattle.std.specs.Prelude.{◌≡◌, ℕ, ◌+◌, ◌≤◌, ◌<◌, ◌^◌, false, length, fold}
use Rattle.std.specs.List.{All}
use Rattle.step_kinds.specs.Limits.{most_traffic_frames}
use Rattle.lane_workers.specs.Passes.{HaveBytes}
use Rattle.stream_model.specs.Fronts.{Begins}
use Rattle.stream_model.specs.Numbers.{SaysAtMost}
use Rattle.stream_model.specs.Receiver.{Receiver, taken}
use Rattle.stream_model.specs.Resumed.{Exchange, IsStreamInOrder}
use Rattle.stream_model.specs.Sender.{Sender, session_frames}
use Rattle.stream_model.specs.declared.Session.TheVariants.{Fresh}
use Rattle.cluster_run.specs.stream.Workers.{StreamSessionState, first_workers}
use Rattle.cluster_run.specs.declared.stream.numbers.LaneNumbers.{LaneNumbers}
use Rattle.cluster_run.specs.declared.stream.session.SessionEnd.{SessionEnd}

-- both ends stand at the start of a session: nothing was given in it, and it starts at what was acknowledged
pub record CanStreamBegin (sender : Sender) (receiver : Receiver) : Type 0 where
  pub given : sender.place.given ≡ 0
  pub acked : sender.acked ≡ sender.start
  pub start : sender.start ≤ sender.place.ever
  pub within : sender.place.ever ≤ length sender.items
  pub bytes : HaveBytes sender.items
  pub few : length sender.items ≤ most_traffic_frames
  pub fresh : receiver.session ≡ Fresh
  pub kept : length receiver.items < 2 ^ 32

-- a session that begins, by the numbers of its lanes: the link isn't cut
abbrev pub new_stream_session : LaneNumbers → ℕ → Sender → Receiver → StreamSessionState
new_stream_session numbers entries sender receiver = record {
  first = first_workers numbers;
  key = record { entries = entries; items = sender.items; start = sender.start; before = receiver.items };
  ever = sender.place.ever;
  kept = length receiver.items;
  cut = false;
}

-- A session ends: this is what its lanes were given, and what came out of them.
pub record StreamEndsWith (session : StreamSessionState) (end : SessionEnd) : Type 0 where
  pub exchange : Exchange
  -- the proofs show it
  pub items_shown : end.item_proof ≡ record { sent = exchange.sent; got = exchange.got; entries = session.key.entries; cut = session.cut }
  pub acks_shown : end.ack_proof ≡ record { sent = exchange.acks_sent; got = exchange.acks_got; entries = session.key.entries; cut = session.cut }
  pub in_order : IsStreamInOrder exchange
  -- the frames of the session were sent, from the first on
  pub sent : Begins exchange.sent (session_frames session.key.items session.key.start)
  -- the receiver took what came of them, and acknowledged no more than it keeps
  pub taken : end.receiver ≡ fold taken (record { items = session.key.before; session = Fresh }) exchange.got
  pub kept : length end.receiver.items ≡ session.kept
  pub acks : All (SaysAtMost (length end.receiver.items)) exchange.acks_sent
  pub came : end.acks.frames ≡ exchange.acks_got
  -- the sender stands where it stood, and counted what it gave
  pub items : end.sender.items ≡ session.key.items
  pub acked : end.sender.acked ≡ session.key.start
  pub ever : end.sender.place.ever ≡ session.ever
  pub reached : session.key.start + length exchange.sent ≤ session.ever + 1
  pub within : session.ever ≤ length session.key.items
  pub bytes : HaveBytes session.key.items
  pub few : length session.key.items ≤ most_traffic_frames
