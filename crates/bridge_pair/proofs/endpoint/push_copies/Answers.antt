use Rattle.std.proofs.Common.{sym, arith}
use Rattle.bridge_pair.proofs.SameWrites.{one_more}
use Rattle.bridge_pair.proofs.endpoint.push_copies.Goals as goal

pub loop-place-preserved : goal.loop-place-preserved
loop-place-preserved c =
    rw c.push.ensures (record {
      writes = one_more c.args.queue.now.writes c.loop-place.copied.writes c.loop-place.place _ _ c.loop-place.invariant.writes (sym c.in-Some.ensures.write) c.in_ok-copy_of.ensures;
      spare = omega (arith, c.len-place-end.ensures, c.loop-place-test.true);
    })
