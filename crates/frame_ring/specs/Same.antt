-- When two ports of one queue can't be told apart by a later call.
use Rattle.std.specs.Prelude.{◌≡◌, true}
use Rattle.frame_ring.specs.Port.{PortState, Sending, is_port_busy}

-- the same counts, the same left to post, and the same entry at hand; of a frame that was posted whole nothing is asked
pub record IsSameSending (one other : Sending) : Type 0 where
  pub begun : one.begun ≡ other.begun
  pub told : one.told ≡ other.told
  pub todo : one.todo ≡ other.todo
  pub waiting : one.waiting ≡ other.waiting
  pub entry : is_port_busy one ≡ true → one.entry ≡ other.entry

pub record IsSamePort (one other : PortState) : Type 0 where
  pub sending : IsSameSending one.sending other.sending
  pub receiving : one.receiving ≡ other.receiving
