use Rattle.std.proofs.Common.{◌∙◌, ap, length, arith}
use Rattle.script_plan.proofs.Floods.{flood_frame_more, length_flood_frame}
use Rattle.script_plan.proofs.traffic.flood_frame.Goals as goal

pub loop-j-preserved : goal.loop-j-preserved
loop-j-preserved c = let e = flood_frame_more c.loop-j.j c.args.i in grind (arith, e)

pub of_vec-requires : goal.of_vec-requires
of_vec-requires c = let e = ap length c.loop-j.invariant ∙ length_flood_frame c.loop-j.j c.args.i in grind (arith, e)
