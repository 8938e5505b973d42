use Rattle.cluster_run.proofs.TrafficByLane.{put_shown}
use Rattle.cluster_run.proofs.by_lane.put.Goals as goal

pub returns-in-Send : goal.returns-in-Send
returns-in-Send c =
    put_shown c.add.result c.args.lanes.now c.place_of.result c.index-lanes-place_of.result c.add.new.self c.args.item.now c.in-Send.lane c.in-Send.frame c.in-Send.is c.place_of.ensures c.requires c.add.ensures
