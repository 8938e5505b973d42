use Rattle.fabric_core.proofs.SessionTallies.{nowhere_more}
use Rattle.fabric_core.proofs.counts.place_of.Goals as goal

pub loop-place-preserved : goal.loop-place-preserved
loop-place-preserved c =
    nowhere_more c.args.counts.now c.args.session c.loop-place.place (record { session = 0; count = 0 }) c.loop-place.invariant c.loop-place-test.true c.if-one-session.false
