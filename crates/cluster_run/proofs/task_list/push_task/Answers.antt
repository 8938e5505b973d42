use Rattle.cluster_run.proofs.TrafficLanes.{can_be_run}
use Rattle.cluster_run.proofs.task_list.push_task.Goals as goal

pub task_of-requires-clause-lane : goal.task_of-requires-clause-lane
task_of-requires-clause-lane c = can_be_run c.args.plan.now c.requires.plan c.args.lane c.is_empty.result c.if-is_empty.false c.is_empty.ensures c.requires.lane
