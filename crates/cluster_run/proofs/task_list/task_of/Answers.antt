use Rattle.cluster_run.proofs.TrafficLanes.{task_key}
use Rattle.cluster_run.proofs.task_list.task_of.Goals as goal

pub returns : goal.returns
returns c =
    task_key c.args.plan.now c.args.number c.args.lane c.pair_at.result.now c.sending_ring-ring.result c.entries.result c.losses_of.result c.pair_at.ensures c.sending_ring-ring.ensures.value c.entries.ensures.value c.losses_of.ensures.value
