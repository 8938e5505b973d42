use Rattle.std.proofs.Common.{[], ◌∷◌, sym, ◌∙◌, ap}
use Rattle.step_kinds.specs.FrameLists.{no_frames}
use Rattle.traffic_plan.specs.Lanes.{frames_on, with_frames}
use Rattle.traffic_plan.proofs.Sends.{frames_on_more}
use Rattle.traffic_plan.proofs.lanes.lane_traffic.Goals as goal

pub loop-item-preserved : goal.loop-item-preserved
loop-item-preserved c =
    let more = frames_on_more c.args.lane c.as_slice-item-items.result.now c.loop-item.item-index c.item-item.result c.loop-item-test.true c.item-item.is in
    c.in_ok-push_on.ensures ∙ (ap (λ list. with_frames list (frames_on c.args.lane (c.item-item.result ∷ []))) c.loop-item.invariant ∙ ap (with_frames no_frames) (sym more))
