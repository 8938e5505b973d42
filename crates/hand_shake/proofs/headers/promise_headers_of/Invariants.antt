use Rattle.std.proofs.Common.{ℕ, ◌-◌, ◌<◌, ◌≤◌}
use Rattle.pair_model.specs.Sizes.{layout_to}
use Rattle.ring_geometry.specs.Geometry.{entries_of}
use Rattle.bridge_pair.specs.Bridge.{bridge_bytes_of, pages_of}
use Rattle.bridge_pair.specs.Pages.{OnlyPagesGrow}
use Rattle.hand_shake.specs.Headers.{IsHeaderReady, IsZeroed, TouchesHeaderOf}
use Rattle.hand_shake.proofs.headers.promise_headers_of.Given as goal

abbrev pub invariant-loop-count : goal.invariant-loop-count
invariant-loop-count l =
    record {
      count : l.count ≤ entries_of (layout_to l.initial.pair.plan l.side l.queue);
      nonzero : 0 < l.count → ¬ IsZeroed l.pair.plan l.side l.ring.queue (l.count - 1) (bridge_bytes_of l.pair l.side);
      grown : OnlyPagesGrow (TouchesHeaderOf l.initial.pair.plan l.side l.queue (bridge_bytes_of l.initial.pair l.side)) l.side l.initial.pair l.pair;
      done : (k : ℕ) → l.count ≤ k → k < entries_of (layout_to l.initial.pair.plan l.side l.queue) → IsHeaderReady l.initial.pair.plan l.side l.queue k (bridge_bytes_of l.initial.pair l.side) (pages_of l.pair l.side);
    }

abbrev pub decreases-loop-count : goal.decreases-loop-count
decreases-loop-count l = l.count
