use Rattle.std.proofs.Common.{◌∙◌, ap, subst, sym}
use Rattle.frame_ring.specs.PortCalls.{IsDue}
use Rattle.fabric_rule.specs.Parts.{PairState, QueuePart, queue_of}
use Rattle.fabric_core.specs.Parts.{IsPairWhole}
use Rattle.fabric_core.proofs.pairs.PairBox.frame_due.Goals as goal

pub frame_due-requires : goal.frame_due-requires
frame_due-requires c =
    let whole : IsPairWhole c.args.self.now = subst IsPairWhole c.self.view_is c.self.invariant in
    ap (λ (state : PairState). state.bridge.plan) c.self.view_is ∙ sym (whole.queues c.args.side c.args.queue c.requires).its_plan ∙ ap (λ (part : QueuePart). part.queue.port.plan) (sym c.queue.ensures)

pub returns : goal.returns
returns c =
    subst (λ (state : PairState). IsDue (queue_of c.args.self.now c.args.side c.args.queue).queue.port state.bridge c.frame_due.result) c.self.view_is
    (subst (λ (part : QueuePart). IsDue part.queue.port c.self.inside.pair c.frame_due.result) c.queue.ensures c.frame_due.ensures)
