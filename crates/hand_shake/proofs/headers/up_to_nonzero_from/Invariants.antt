use Rattle.std.proofs.Common.{◌≤◌}
use Rattle.bridge_pair.specs.Bridge.{bridge_bytes_of}
use Rattle.hand_shake.specs.Headers.{AreSomeZeroed}
use Rattle.hand_shake.proofs.headers.up_to_nonzero_from.Given as goal

abbrev pub invariant-loop-n : goal.invariant-loop-n
invariant-loop-n l =
    record {
      least : l.from ≤ l.n;
      zero : AreSomeZeroed l.pair.plan l.side l.ring.queue l.n l.to (bridge_bytes_of l.pair l.side);
    }
