-- A queue pair of one side: its port, and whether the queue is closed on this side.
use Rattle.std.specs.Prelude.{Bool, false, ℕ}
use Rattle.step_kinds.specs.declared.names.Side.{Side}
use Rattle.step_kinds.specs.declared.plan.PairPlan.{PairPlan}
use Rattle.frame_ring.specs.Port.{PortState, fresh_port}

pub record QueueState : Type 0 where
  pub port : PortState
  pub closed : Bool

abbrev pub fresh_queue : PairPlan → Side → ℕ → QueueState
fresh_queue plan side queue = record { port = fresh_port plan side queue; closed = false }

abbrev pub with_port : QueueState → PortState → QueueState
with_port queue port = record queue { port = port }
