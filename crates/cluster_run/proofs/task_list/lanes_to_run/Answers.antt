use Rattle.cluster_run.proofs.RecordFits.{all_named, are_of_traffic, few_lanes, few_named, on_ok}
use Rattle.cluster_run.proofs.task_list.lanes_to_run.Goals as goal

pub waiting_lanes-requires-clause-few : goal.waiting_lanes-requires-clause-few
waiting_lanes-requires-clause-few c = few_lanes c.args.plan.now c.requires c.in_ok-lanes.lanes.items c.in_ok-lanes.ensures

pub waiting_lanes-requires-clause-traffic : goal.waiting_lanes-requires-clause-traffic
waiting_lanes-requires-clause-traffic c = are_of_traffic c.args.plan.now c.in_ok-lanes.lanes.items c.in_ok-lanes.ensures

pub returns-clause-keys : goal.returns-clause-keys
returns-clause-keys c =
    on_ok _ _ c.waiting_lanes.result (λ tasks is. all_named c.args.plan.now c.in_ok-lanes.lanes.items tasks.items c.in_ok-lanes.ensures is) c.waiting_lanes.ensures

pub returns-clause-few : goal.returns-clause-few
returns-clause-few c =
    on_ok _ _ c.waiting_lanes.result (λ tasks is. few_named c.args.plan.now c.requires c.in_ok-lanes.lanes.items tasks.items c.in_ok-lanes.ensures is) c.waiting_lanes.ensures
