use Rattle.bridge_pair.specs.Bridge.{pages_of}
use Rattle.step_kinds.specs.declared.names.Side.TheVariants.{A, B}
use Rattle.fabric_core.proofs.FreshQueues.{fresh_pair, fresh_whole}
use Rattle.fabric_core.proofs.pairs.PairBox.new.Goals as goal

pub invariant_of-result : goal.invariant_of-result
invariant_of-result c =
    fresh_whole c.args.devs.now c.args.plan.now c.args.k c.in_ok-new.field-0 (record { a = pages_of c.in_ok-new.field-0 A; b = pages_of c.in_ok-new.field-0 B }) c.in_ok-fresh_queues.field-0.items
    c.in_ok-fresh_queues-2.field-0.items c.in_ok-new.ensures.fresh c.in_ok-fresh_queues.ensures c.in_ok-fresh_queues-2.ensures

pub returns : goal.returns
returns c =
    fresh_pair c.args.devs.now c.args.plan.now c.args.k c.in_ok-new.field-0 (record { a = pages_of c.in_ok-new.field-0 A; b = pages_of c.in_ok-new.field-0 B }) c.in_ok-fresh_queues.field-0.items
    c.in_ok-fresh_queues-2.field-0.items c.in_ok-new.ensures.fresh c.in_ok-fresh_queues.ensures c.in_ok-fresh_queues-2.ensures
