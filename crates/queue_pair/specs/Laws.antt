-- What is so of a queue's refusals.
use Rattle.std.specs.Prelude.{◌≡◌, ℕ, Bool, true, false}
use Rattle.bridge_pair.specs.Bridge.{Bridge}
use Rattle.queue_pair.specs.Gates.{begin_answer, refuses_answer}
use Rattle.queue_pair.specs.Queue.{QueueState}
use Rattle.queue_pair.specs.declared.BeginAnswer.{BeginAnswer}
use Rattle.queue_pair.specs.declared.BeginAnswer.TheVariants.{Ok as IsBegun, LinkDown, NotReady, Closed, TooLong, Busy, NoRoom}

-- whether a begin was refused for another reason than want of room
abbrev pub is_refusal : BeginAnswer → Bool
is_refusal LinkDown = true
is_refusal NotReady = true
is_refusal Closed = true
is_refusal (TooLong len most) = true
is_refusal Busy = true
is_refusal (IsBegun number) = false
is_refusal (NoRoom head tail) = false

-- a queue refuses frames of a length if and only if a begin would be refused so
abbrev pub RefusesWhereBeginWould : Type 0
RefusesWhereBeginWould = (queue : QueueState) (bridge : Bridge) (len : ℕ) → refuses_answer queue bridge len ≡ is_refusal (begin_answer queue bridge len)
