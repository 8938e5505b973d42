-- A queue of a pair on which its calls may be made.
use Rattle.std.specs.Prelude.{◌≡◌}
use Rattle.bridge_pair.specs.Bridge.{Bridge}
use Rattle.frame_ring.specs.PortView.{FitsRings, HasPagesIn, HasRoomIn}
use Rattle.queue_pair.specs.Queue.{QueueState}

-- The queue is one of the pair, whose rings fit, and what its port was promised and hasn't used is there.
pub record IsQueueOn (pair : Bridge) (queue : QueueState) : Type 0 where
  pub plan : pair.plan ≡ queue.port.plan
  pub fits : FitsRings queue.port.plan
  pub room : HasRoomIn queue.port pair
  pub pages : HasPagesIn queue.port pair
