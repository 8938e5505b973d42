use Rattle.std.proofs.Common.{ap}
use Rattle.step_kinds.specs.FrameLists.{Frames}
use Rattle.cluster_run.proofs.TrafficByLane.{side_more}
use Rattle.cluster_run.proofs.by_lane.push_side.Goals as goal

pub loop-queue-preserved : goal.loop-queue-preserved
loop-queue-preserved c =
    let empty = ap (λ (frames : Frames). record { name = record { pair = c.args.pair; from = c.args.from; queue = c.loop-queue.queue }; frames = frames.frames }) c.new.ensures in
    side_more c.args.pair c.args.from c.loop-queue.queue _ _ _ _ c.loop-queue.invariant c.in_ok-push.ensures.items empty
