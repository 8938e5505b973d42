use Rattle.std.proofs.Common.{◌≡◌, ◌-◌, ◌<◌, ◌≤◌}
use Rattle.pair_model.specs.Sizes.{layout_to}
use Rattle.ring_geometry.specs.Geometry.{entries_of}
use Rattle.bridge_pair.specs.Bridge.{bridge_bytes_of, with_bytes}
use Rattle.bridge_pair.specs.Ends.{bytes_after}
use Rattle.hand_shake.specs.Headers.{IsZeroed, some_stores}
use Rattle.hand_shake.proofs.headers.zero_headers_of.Given as goal

abbrev pub invariant-loop-count : goal.invariant-loop-count
invariant-loop-count l =
    record {
      count : l.count ≤ entries_of (layout_to l.initial.pair.plan l.side l.queue);
      nonzero : 0 < l.count → ¬ IsZeroed l.pair.plan l.side l.ring.queue (l.count - 1) (bridge_bytes_of l.pair l.side);
      so_far : l.pair
          ≡ with_bytes l.initial.pair l.side
          (bytes_after (some_stores l.initial.pair.plan l.side l.queue l.count (entries_of (layout_to l.initial.pair.plan l.side l.queue) - l.count)) (bridge_bytes_of l.initial.pair l.side));
    }

abbrev pub decreases-loop-count : goal.decreases-loop-count
decreases-loop-count l = l.count
