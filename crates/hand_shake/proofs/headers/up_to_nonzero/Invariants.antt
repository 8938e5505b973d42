use Rattle.std.proofs.Common.{◌+◌, ◌*◌, ◌-◌, ◌<◌, ◌≤◌, length}
use Rattle.pair_model.specs.Addresses.{own_header}
use Rattle.pair_model.specs.Sizes.{header_bytes}
use Rattle.bridge_pair.specs.Bridge.{bridge_bytes_of}
use Rattle.hand_shake.specs.Headers.{AreSomeZeroed}
use Rattle.hand_shake.proofs.headers.up_to_nonzero.Given as goal

abbrev pub invariant-loop-to : goal.invariant-loop-to
invariant-loop-to l =
    record {
      together : 1 ≤ l.together;
      few : 1 ≤ l.few;
      fewer : l.to ≤ l.count;
      zero : AreSomeZeroed l.pair.plan l.side l.ring.queue l.to l.count (bridge_bytes_of l.pair l.side);
      within : l.to < l.count → own_header l.pair.plan l.side l.ring.queue (l.count - 1) + header_bytes l.pair.plan ≤ length (bridge_bytes_of l.pair l.side);
    }

abbrev pub decreases-loop-to : goal.decreases-loop-to
decreases-loop-to l = 2 * l.to + l.together
