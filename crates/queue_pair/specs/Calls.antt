-- The contract of each call of a queue pair, over the queue and the pair before and after it. The tests of link, joined
-- and closed queue come first (Gates), and what passes them is the port's call. `early` and `late` are the pair as the
-- call begins and ends. A post, a copy, a clear and an acknowledgement are the port's, and have its relations as they
-- stand in `frame_ring`'s PortCalls.
use Rattle.std.specs.Prelude.{◌≡◌, ℕ, List, length, IfOk, OnErr, OnOk, Result}
use Rattle.bridge_pair.specs.Bridge.{Bridge}
use Rattle.frame_ring.specs.Calls.{TouchedByBegin, TouchedByDown, TouchedByFlags, TouchedByLook}
use Rattle.frame_ring.specs.PortCalls.{HasPromised, HasPromisedBoth}
use Rattle.queue_pair.specs.Gates.{FindsEntry, queue_after_begin, queue_after_look, after_qpdown, begin_answer, look_answer, qpdown_answer}
use Rattle.queue_pair.specs.Queue.{QueueState}
use Rattle.queue_pair.specs.declared.BeginAnswer.{BeginAnswer}
use Rattle.queue_pair.specs.declared.BeginAnswer.TheVariants.{Ok as IsBegun}
use Rattle.queue_pair.specs.declared.LookAnswer.{LookAnswer}

pub record HasBegunOnQueue {E : Type 0} (old new : QueueState) (early late : Bridge) (frame : List ℕ) (result : Result BeginAnswer E) : Type 0 where
  -- the frame is begun, or refused for the first reason that holds, the queue's own before the port's
  pub answer : IfOk result (λ answer. answer ≡ begin_answer old early (length frame))
  -- where it is begun its writes are left to post; a refusal changes nothing
  pub after : OnOk result (new ≡ queue_after_begin old early frame)
  -- out of memory leaves the queue as it was
  pub err : OnErr result (new ≡ old)
  -- and comes only if the frame was to be begun
  pub wants : OnErr result (begin_answer old early (length frame) ≡ IsBegun old.port.sending.told)
  -- the port has promised what the writes need
  pub promises : HasPromised (TouchedByBegin old.port early frame) old.port new.port early late result
  pub open promises use *

-- the same of a frame that isn't refused
pub record HasBegunUnrefusedOnQueue {E : Type 0} (old new : QueueState) (early late : Bridge) (frame : List ℕ) (result : Result ℕ E) : Type 0 where
  -- the result is the number under which it is begun
  pub number : IfOk result (λ number. begin_answer old early (length frame) ≡ IsBegun number)
  -- its writes are left to post
  pub after : OnOk result (new ≡ queue_after_begin old early frame)
  -- out of memory leaves the queue as it was
  pub err : OnErr result (new ≡ old)
  -- the port has promised what the writes need
  pub promises : HasPromised (TouchedByBegin old.port early frame) old.port new.port early late result
  pub open promises use *

pub record HasGoneDownOnQueue {E : Type 0} (old new : QueueState) (early late : Bridge) (result : Result BeginAnswer E) : Type 0 where
  -- a link-down entry is begun, or refused for the first reason that holds, the queue's own before the port's
  pub answer : IfOk result (λ answer. answer ≡ qpdown_answer old early)
  -- where it is begun its writes are left to post, and the queue is closed; a refusal changes nothing
  pub after : OnOk result (new ≡ after_qpdown old early)
  -- out of memory leaves the queue as it was
  pub err : OnErr result (new ≡ old)
  -- and comes only if the entry was to be begun
  pub wants : OnErr result (qpdown_answer old early ≡ IsBegun old.port.sending.told)
  -- the port has promised what the writes need
  pub promises : HasPromised (TouchedByDown old.port early) old.port new.port early late result
  pub open promises use *

pub record HasLookedOnQueue {E : Type 0} (old new : QueueState) (early late : Bridge) (result : Result LookAnswer E) : Type 0 where
  -- the answer is the queue's first refusal, else what stands in the next slot
  pub answer : IfOk result (λ answer. answer ≡ look_answer old early)
  -- an entry that is found is at hand to be copied, and a link-down entry closes the queue; else nothing changes
  pub after : OnOk result (new ≡ queue_after_look old early)
  -- out of memory leaves the queue as it was
  pub err : OnErr result (new ≡ old)
  -- and comes only if an entry is found
  pub wants : OnErr result (FindsEntry old early)
  -- the port has promised what it needs to take the entry and to give it back
  pub promises : HasPromisedBoth (TouchedByLook old.port early) (TouchedByFlags old.port early) old.port new.port early late result
  pub open promises use *

-- the same of an entry that is there
pub record HasFoundOnQueue {X E : Type 0} (old new : QueueState) (early late : Bridge) (result : Result X E) : Type 0 where
  -- the entry is at hand to be copied
  pub after : OnOk result (new ≡ queue_after_look old early)
  -- out of memory leaves the queue as it was
  pub err : OnErr result (new ≡ old)
  -- the port has promised what it needs to take the entry and to give it back
  pub promises : HasPromisedBoth (TouchedByLook old.port early) (TouchedByFlags old.port early) old.port new.port early late result
  pub open promises use *
