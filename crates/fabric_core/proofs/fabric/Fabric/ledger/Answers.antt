use Rattle.std.proofs.Common.{◌∙◌, ap}
use Rattle.fabric_rule.specs.Parts.{QueuePart, count_in, queue_of}
use Rattle.step_kinds.specs.declared.names.Side.{Side}
use Rattle.fabric_core.specs.Fabric.{pair_of}
use Rattle.fabric_core.proofs.LogCounts.{accepted_counted, delivered_counted}
use Rattle.fabric_core.proofs.fabric.Fabric.ledger.Goals as goal

pub returns-clause-accepted : goal.returns-clause-accepted
returns-clause-accepted c = λ plan steps made.
    c.accepted_in.ensures ∙ ap (λ (part : QueuePart). count_in part.accepted c.args.session) c.queue-sent.ensures ∙ accepted_counted plan steps c.args.self.now made c.args.lane c.args.session c.requires.sent

pub returns-clause-delivered : goal.returns-clause-delivered
returns-clause-delivered c = λ plan steps made.
    c.delivered_in.ensures ∙ ap (λ (part : QueuePart). count_in part.delivered c.args.session) c.queue-received.ensures
    ∙ ap (λ (side : Side). count_in (queue_of (pair_of c.args.self.now c.args.lane.pair) side c.args.lane.queue).delivered c.args.session) c.other.ensures
    ∙ delivered_counted plan steps c.args.self.now made c.args.lane c.args.session c.requires.received
