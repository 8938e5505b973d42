use Rattle.cluster_run.proofs.Facade.{added_on_ok}
use Rattle.cluster_run.specs.stream.Keys.{StreamComesTo}
use Rattle.cluster_run.specs.stream.Streams.{stream_shown}
use Rattle.cluster_run.proofs.stream.parts.StreamParts.add.Goals as goal

pub returns : goal.returns
returns c =
    added_on_ok StreamComesTo stream_shown c.append.result _ _ _ _ _ c.args.work.key c.in_ok-lane.lane c.in_ok-push.ensures.items c.append.ensures.items c.in_ok-lane.ensures
