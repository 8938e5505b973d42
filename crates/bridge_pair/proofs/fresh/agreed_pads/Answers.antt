use Rattle.std.proofs.Common.{arith}
use Rattle.bridge_pair.proofs.OfferedPads.{one_more}
use Rattle.bridge_pair.proofs.fresh.agreed_pads.Goals as goal

pub loop-m-preserved : goal.loop-m-preserved
loop-m-preserved c =
    rw (c.set-in-loop-m-2.ensures.changed, c.set-in-loop-m.ensures.changed, c.low_half.ensures, c.high_half.ensures, c.loop-m.invariant)
    (one_more c.args.peer c.loop-m.m (omega (arith, c.requires.windows, c.loop-m-test.true)))
