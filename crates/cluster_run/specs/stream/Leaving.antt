-- What the two ends of a stream leave at the end of a session.
use Rattle.std.specs.Prelude.{◌≡◌, length, fold}
use Rattle.std.specs.List.{All}
use Rattle.stream_model.specs.Numbers.{SaysAtMost}
use Rattle.stream_model.specs.Receiver.{taken}
use Rattle.stream_model.specs.declared.Session.TheVariants.{Fresh}
use Rattle.cluster_run.specs.stream.Ends.{HasOffered}
use Rattle.cluster_run.specs.stream.Workers.{SinkShown, SourceShown}
use Rattle.cluster_run.specs.declared.stream.sink.SinkEnd.{SinkEnd}
use Rattle.cluster_run.specs.declared.stream.source.SourceEnd.{SourceEnd}

-- what was sent is what the stream gave, and what came is listed
pub record LeavesSource (w : SourceShown) (end : SourceEnd) : Type 0 where
  pub lane : end.send.lane ≡ w.key.lane
  pub ack_lane : end.recv.lane ≡ w.key.ack_lane
  pub entries : end.send.part.entries ≡ w.key.entries
  pub items : end.sender.items ≡ w.key.items
  pub start : end.sender.start ≡ w.key.start
  pub acked : end.sender.acked ≡ w.key.start
  pub ever : end.sender.place.ever ≡ w.ever
  pub offered : HasOffered end.sender end.send.part.sent
  pub came : end.recv.part.got ≡ end.acks.frames

-- the stream took what was received, and acknowledged at most what it keeps
pub record LeavesSink (w : SinkShown) (end : SinkEnd) : Type 0 where
  pub lane : end.recv.lane ≡ w.key.lane
  pub ack_lane : end.send.lane ≡ w.key.ack_lane
  pub entries : end.send.part.entries ≡ w.key.entries
  pub taken : end.receiver ≡ fold taken (record { items = w.key.before; session = Fresh }) end.recv.part.got
  pub kept : length end.receiver.items ≡ w.kept
  pub acks : All (SaysAtMost (length end.receiver.items)) end.send.part.sent
