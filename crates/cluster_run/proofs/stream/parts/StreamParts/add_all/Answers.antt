use Rattle.std.proofs.Common.{◌++◌}
use Rattle.cluster_run.specs.LaneKeys.{keys_of}
use Rattle.cluster_run.proofs.Facade.{added_together}
use Rattle.cluster_run.specs.stream.Keys.{StreamComesTo}
use Rattle.cluster_run.proofs.stream.parts.StreamParts.add_all.Goals as goal

pub loop-work-preserved : goal.loop-work-preserved
loop-work-preserved c keys come =
    let added = c.in_ok-add.ensures (keys ++ keys_of c.loop-work.yielded) (c.loop-work.invariant keys come) in
    added_together StreamComesTo keys c.loop-work.yielded c.in-Some.work _ _ added
