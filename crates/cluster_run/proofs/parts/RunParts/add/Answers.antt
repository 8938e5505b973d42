use Rattle.step_kinds.specs.Runs.{lane_shown}
use Rattle.cluster_run.specs.LaneKeys.{ComesTo}
use Rattle.cluster_run.proofs.LaneLists.{added_on_ok}
use Rattle.cluster_run.proofs.parts.RunParts.add.Goals as goal

pub returns : goal.returns
returns c =
    added_on_ok ComesTo lane_shown c.append.result _ _ _ _ _ c.args.work.key c.in_ok-lane.lane c.in_ok-push.ensures.items c.append.ensures.items c.in_ok-lane.ensures
