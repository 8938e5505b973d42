-- The fields of a stream's workers: what each shows, and what is true of it between two passes.
use Rattle.std.specs.Prelude.{◌≡◌, ◌≤◌, ◌<◌, ◌^◌, false, length, take, fold}
use Rattle.std.specs.List.{All}
use Rattle.stream_model.specs.Numbers.{SaysAtMost}
use Rattle.stream_model.specs.Receiver.{taken}
use Rattle.stream_model.specs.declared.Session.TheVariants.{Fresh}
use Rattle.cluster_run.specs.Workers.{WorkerKey}
use Rattle.cluster_run.specs.stream.Ends.{HasOffered}
use Rattle.cluster_run.specs.stream.Workers.{SourceShown, SinkShown, StreamMovingShown, StreamCuttingShown, PairKey}
use Rattle.cluster_run.specs.declared.stream.source.Source.TheInside as source
use Rattle.cluster_run.specs.declared.stream.sink.Sink.TheInside as sink
use Rattle.cluster_run.specs.declared.stream.pair.PairMoving.TheInside as moving
use Rattle.cluster_run.specs.declared.stream.pair.PairCutting.TheInside as cutting

abbrev pub source_of : source.Inside → SourceShown
source_of w = record {
  key = record {
    workers = record { items = w.clock.worker; acks = w.acks.key.worker };
    lane = w.end.lane;
    ack_lane = w.acks.key.lane;
    entries = w.end.part.entries;
    items = w.sender.items;
    start = w.sender.start;
  };
  ever = w.sender.place.ever;
}

-- what was sent is what the stream gave; no acknowledgement of this session was taken
pub record IsSource (w : source.Inside) : Type 0 where
  pub offered : HasOffered w.sender w.end.part.sent
  pub acked : w.sender.acked ≡ w.sender.start

abbrev pub sink_of : sink.Inside → SinkShown
sink_of w = record {
  key = record {
    workers = record { items = w.clock.worker; acks = w.ack_clock.worker };
    lane = w.end.lane;
    ack_lane = w.acks.lane;
    entries = w.acks.part.entries;
    before = take w.begun w.receiver.items;
  };
  kept = length w.receiver.items;
}

-- The stream took what was received, unless there was no memory for a frame. Each acknowledgement says at most how many
-- items are kept, and there are no more acknowledgements than that.
pub record IsSink (w : sink.Inside) : Type 0 where
  pub begun : w.begun ≤ length w.receiver.items
  pub few : length w.receiver.items < 2 ^ 32
  pub taken : w.is_wanting ≡ false → w.receiver ≡ fold taken (record { items = take w.begun w.receiver.items; session = Fresh }) w.end.part.got
  pub acks : All (SaysAtMost (length w.receiver.items)) w.acks.part.sent
  pub told : (length w.acks.part.sent ≤ w.told) × (w.told ≤ length w.receiver.items)

-- of the workers on the lane of items and on that of acknowledgements
abbrev pub key_of_both : WorkerKey → WorkerKey → PairKey
key_of_both items acks = record { workers = record { items = items.worker; acks = acks.worker }; lane = items.lane; ack_lane = acks.lane }

abbrev pub stream_moving_of : moving.Inside → StreamMovingShown
stream_moving_of w = record { key = key_of_both w.items.key w.acks.key; tries = w.items.tries; loads = w.items.loads }

abbrev pub stream_cutting_of : cutting.Inside → StreamCuttingShown
stream_cutting_of w = record { key = key_of_both w.items.key w.acks.key; cut = w.items.cut }

-- both lanes are cut, or none
abbrev pub IsStreamCutting : cutting.Inside → Type 0
IsStreamCutting w = w.acks.cut ≡ w.items.cut
