-- What contracts see of a queue that a pair keeps.
use Rattle.std.specs.Prelude.{◌≡◌, true}
use Rattle.lane_model.specs.Tests.{is_copying}
use Rattle.fabric_rule.specs.Parts.{QueuePart}
use Rattle.fabric_core.specs.Numbers.{HasRoomToDeliver}
use Rattle.fabric_core.specs.declared.queues.QueueBox.TheInside.{Inside}

abbrev pub part_seen : Inside → QueuePart
part_seen kept = record { queue = kept.queue; flow = kept.flow; counters = kept.counters; accepted = kept.accepted.counts; delivered = kept.delivered.counts }

-- while an entry is copied, the frame that it may be the last of can be counted
pub record IsQueueBox (kept : Inside) : Type 0 where
  pub room : is_copying kept.queue.port.receiving.phase ≡ true → kept.delivered.has_room ≡ true
  pub numbers : is_copying kept.queue.port.receiving.phase ≡ true → HasRoomToDeliver kept.counters
