use Rattle.std.proofs.Common.{length, sym, subst, rules, arith}
use Rattle.std.proofs.lemmas.Grind.{common_steps}
use Rattle.frame_ring.specs.Calls.{TouchedByBegin}
use Rattle.frame_ring.specs.PortCalls.{HasPromised}
use Rattle.queue_pair.specs.Gates.{BeginsFrame}
use Rattle.queue_pair.specs.Queue.{QueueState}
use Rattle.queue_pair.proofs.Begins.{port_begins}
use Rattle.queue_pair.proofs.queue.QueuePair.begin_unrefused.Goals as goal

pub begin_unrefused-requires-clause-begins : goal.begin_unrefused-requires-clause-begins
begin_unrefused-requires-clause-begins c =
    let begins = subst (λ (queue : QueueState). BeginsFrame queue c.args.pair.now (length c.args.frame)) (sym c.self.view_is) c.requires.begins in
    port_begins (record { port = c.self.inside.port; closed = c.self.inside.closed }) c.args.pair.now (length c.args.frame) begins

pub returns : goal.returns
returns c = record {
  number = first_of (search rules, grind (arith, common_steps));
  after = first_of (search rules, grind (arith, common_steps));
  err = first_of (search rules, grind (arith, common_steps));
  promises =
      subst (λ (queue : QueueState). HasPromised (TouchedByBegin queue.port c.args.pair.now c.args.frame) queue.port c.begin_unrefused.new.self c.args.pair.now c.begin_unrefused.new.pair c.begin_unrefused.result)
      c.self.view_is c.begin_unrefused.ensures.promises;
}
