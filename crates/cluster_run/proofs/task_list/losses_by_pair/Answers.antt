use Rattle.cluster_run.proofs.TrafficCounts.{few_items, losses_more}
use Rattle.cluster_run.proofs.task_list.losses_by_pair.Goals as goal

pub breaks-requires : goal.breaks-requires
breaks-requires c = few_items c.args.plan.now c.requires

pub loop-pair-preserved : goal.loop-pair-preserved
loop-pair-preserved c = losses_more c.args.plan.now.traffic c.loop-pair.pair c.breaks.result _ _ c.loop-pair.invariant c.in_ok-push.ensures.items c.breaks.ensures
