-- When two queue pairs of one queue can't be told apart by a later call.
use Rattle.std.specs.Prelude.{◌≡◌}
use Rattle.frame_ring.specs.Same.{IsSamePort}
use Rattle.queue_pair.specs.Queue.{QueueState}

pub record IsSameQueue (one other : QueueState) : Type 0 where
  pub port : IsSamePort one.port other.port
  pub closed : one.closed ≡ other.closed
