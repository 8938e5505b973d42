use Rattle.std.proofs.Common.{length, map, ◌∙◌, ap, arith}
use Rattle.std.proofs.lemmas.Iterator.Adapters.{YieldsList-from_vec}
use Rattle.std.proofs.lemmas.Iterator.Consumers.{YieldsList-turn}
use Rattle.std.proofs.lemmas.List.{length-map}
use Rattle.cluster_run.specs.ByLane.{lane_frames}
use Rattle.cluster_run.proofs.TrafficLanes.{few_waiting, waiting_more}
use Rattle.cluster_run.proofs.task_list.waiting_lanes.Goals as goal

pub push_task-requires-clause-few : goal.push_task-requires-clause-few
push_task-requires-clause-few c =
    let turn = YieldsList-turn (YieldsList-from_vec c.args.lanes.items c.into_iter-lane-iterator.ensures.into_iter_gives.0 (c.into_iter-lane-iterator.ensures.into_iter_gives.1 ∙ c.args.lanes.ok.0)) c.loop-lane.yielded c.loop-lane.lane-iterator c.loop-lane.yielded_by _ c.next.new.self c.in-Some.lane c.in-Some.is c.next.ensures.steps in
    let few = few_waiting c.args.plan.now (map lane_frames c.loop-lane.yielded) 0 in
    let many = length-map c.loop-lane.yielded lane_frames in
    let same = ap length c.loop-lane.invariant in
    let all = c.requires.few in
    omega (arith, turn.0)

pub loop-lane-preserved : goal.loop-lane-preserved
loop-lane-preserved c = waiting_more c.args.plan.now c.loop-lane.yielded c.in-Some.lane _ _ c.loop-lane.invariant c.in_ok-push_task.ensures
