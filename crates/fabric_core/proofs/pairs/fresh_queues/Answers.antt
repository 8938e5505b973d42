use Rattle.std.proofs.Common.{[], ◌++◌, ◌∙◌, ◌∷◌, List, ap, subst, sym, ◌+◌}
use Rattle.fabric_rule.specs.Parts.{QueuePart}
use Rattle.fabric_core.proofs.FreshQueues.{AreFreshBelow, fresh_more}
use Rattle.fabric_core.proofs.pairs.fresh_queues.Goals as goal

pub loop-queue-preserved : goal.loop-queue-preserved
loop-queue-preserved c =
    let items = c.in_ok-push.ensures.items ∙ ap (λ (part : QueuePart). c.loop-queue.queues.items ++ part ∷ []) c.new.ensures in
    subst (λ (parts : List QueuePart). AreFreshBelow c.args.devs.now c.args.plan.now c.args.k c.args.side parts (c.loop-queue.queue + 1)) (sym items)
    (fresh_more c.args.devs.now c.args.plan.now c.args.k c.args.side c.loop-queue.queues.items c.loop-queue.queue c.limits_on-stop.result.0 c.limits_on-stop.result.1 c.limits_on-stop.ensures
    c.loop-queue.invariant)
