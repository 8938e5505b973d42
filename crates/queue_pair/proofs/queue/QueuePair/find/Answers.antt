use Rattle.std.proofs.Common.{◌≡◌, sym, subst, rules, arith}
use Rattle.std.proofs.lemmas.Grind.{common_steps}
use Rattle.frame_ring.specs.Calls.{TouchedByFlags, TouchedByLook}
use Rattle.frame_ring.specs.PortCalls.{HasPromisedBoth}
use Rattle.queue_pair.specs.Gates.{look_answer}
use Rattle.queue_pair.specs.Queue.{QueueState}
use Rattle.queue_pair.specs.declared.LookAnswer.TheVariants.{Ready}
use Rattle.queue_pair.proofs.Begins.{port_finds}
use Rattle.queue_pair.proofs.queue.QueuePair.find.Goals as goal

pub find-requires-clause-found : goal.find-requires-clause-found
find-requires-clause-found c =
    let found = subst (λ (queue : QueueState). look_answer queue c.args.pair.now ≡ Ready queue.port.receiving.got c.args.len) (sym c.self.view_is) c.requires.found in
    port_finds (record { port = c.self.inside.port; closed = c.self.inside.closed }) c.args.pair.now c.self.inside.port.receiving.got c.args.len found

pub returns : goal.returns
returns c = record {
  after = first_of (search rules, grind (arith, common_steps));
  err = first_of (search rules, grind (arith, common_steps));
  promises =
      subst (λ (queue : QueueState). HasPromisedBoth (TouchedByLook queue.port c.args.pair.now) (TouchedByFlags queue.port c.args.pair.now) queue.port c.find.new.self c.args.pair.now c.find.new.pair c.find.result)
      c.self.view_is c.find.ensures.promises;
}
