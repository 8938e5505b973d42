use Rattle.std.proofs.Common.{arith}
use Rattle.cluster_run.proofs.TrafficLanes.{losses_found}
use Rattle.cluster_run.proofs.task_list.losses_of.Goals as goal

pub bounds-losses-pair : goal.bounds-losses-pair
bounds-losses-pair c = (losses_found c.args.plan.now c.args.losses.now c.args.pair c.requires.losses c.requires.pair).0

pub returns-clause-value : goal.returns-clause-value
returns-clause-value c = (losses_found c.args.plan.now c.args.losses.now c.args.pair c.requires.losses c.requires.pair).1

pub returns-clause-few : goal.returns-clause-few
returns-clause-few c =
    let few = c.requires.plan.few_breaks c.args.pair in
    let found = (losses_found c.args.plan.now c.args.losses.now c.args.pair c.requires.losses c.requires.pair).1 in
    omega (arith, few, found)
