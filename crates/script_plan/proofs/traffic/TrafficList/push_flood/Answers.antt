use Rattle.std.proofs.Common.{◌∙◌, ap, length, append_assoc}
use Rattle.script_plan.proofs.Floods.{flood_of_more, length_flood_frame, frames_stay, bytes_stay}
use Rattle.script_plan.proofs.traffic.TrafficList.push_flood.Goals as goal

pub push_frame-requires-clause-frames : goal.push_frame-requires-clause-frames
push_frame-requires-clause-frames c =
    frames_stay c.args.self.now c.loop-i.self c.args.lane c.loop-i.i c.args.count c.args.len _ c.loop-i-test.true c.requires.frames c.loop-i.invariant

pub push_frame-requires-clause-bytes : goal.push_frame-requires-clause-bytes
push_frame-requires-clause-bytes c =
    bytes_stay c.args.self.now c.loop-i.self c.args.lane c.loop-i.i c.args.count c.args.len _ _ c.loop-i-test.true c.requires.bytes c.loop-i.invariant
    (ap length c.in_ok-frame.ensures ∙ length_flood_frame c.args.len c.loop-i.i)

pub loop-i-preserved : goal.loop-i-preserved
loop-i-preserved c =
    let e = flood_of_more c.args.lane c.loop-i.i c.args.len in
    let f = c.in_ok-frame.ensures in
    let m = c.in_ok-push_frame.ensures.after in
    let i = c.loop-i.invariant in
    rw (m, i, f, append_assoc, ← e)
