use Rattle.std.proofs.Common.{Ok, subst, rules, arith}
use Rattle.std.proofs.lemmas.Grind.{common_steps}
use Rattle.std.specs.declared.alloc.AllocError.{AllocError}
use Rattle.frame_ring.specs.Calls.{TouchedByBegin}
use Rattle.frame_ring.specs.PortCalls.{HasPromised}
use Rattle.queue_pair.specs.Queue.{QueueState}
use Rattle.queue_pair.proofs.queue.QueuePair.begin.Goals as goal

pub returns : goal.returns
returns c = record {
  answer = first_of (search rules, grind (arith, common_steps));
  after = first_of (search rules, grind (arith, common_steps));
  err = tt;
  wants = tt;
  promises =
      let pair = c.args.pair.now in
      let promised =
      subst (λ (queue : QueueState). HasPromised {E = AllocError} (TouchedByBegin queue.port pair c.args.frame) queue.port c.begin.new.self pair c.begin.new.pair (Ok c.in_ok-begun.begun)) c.self.view_is
      c.in_ok-begun.ensures.promises in
      record { rest = promised.rest; pages = promised.pages; ready = promised.ready };
}
