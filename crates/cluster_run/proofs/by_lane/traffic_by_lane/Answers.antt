use Rattle.std.proofs.Common.{length, map, take, ◌∙◌, ap, arith}
use Rattle.std.proofs.lemmas.List.{with_items_is}
use Rattle.cluster_run.specs.ByLane.{lane_frames}
use Rattle.cluster_run.proofs.TrafficByLane.{has_place, item_placed, item_put, lanes_counted}
use Rattle.cluster_run.proofs.by_lane.traffic_by_lane.Goals as goal

pub put-requires : goal.put-requires
put-requires c =
    let plan = c.args.plan.now in
    let items = c.as_slice-item-items.result.now in
    let placed = item_placed plan c.requires items c.loop-item.item-index c.item-item.result c.as_slice-item-items.ensures c.loop-item-test.true c.item-item.is in
    has_place (length c.deref_mut.result.now) (length plan.pairs) c.item-item.result (lanes_counted c.loop-item.lanes.items c.deref_mut.result.now (take c.loop-item.item-index items) (length plan.pairs) c.deref_mut.ensures.value c.loop-item.invariant) placed

pub loop-item-preserved : goal.loop-item-preserved
loop-item-preserved c =
    let plan = c.args.plan.now in
    let items = c.as_slice-item-items.result.now in
    let placed = item_placed plan c.requires items c.loop-item.item-index c.item-item.result c.as_slice-item-items.ensures c.loop-item-test.true c.item-item.is in
    let auto = c.put.auto.lanes in
    let len = c.deref_mut.ensures.len in
    ap (map lane_frames) (with_items_is c.loop-item.lanes c.put.new.lanes (omega arith)) ∙
    item_put (length plan.pairs) items c.loop-item.item-index c.item-item.result c.loop-item.lanes.items c.deref_mut.result.now c.put.new.lanes c.loop-item-test.true c.item-item.is placed c.deref_mut.ensures.value c.loop-item.invariant c.in_ok-put.ensures
