use Rattle.std.proofs.Common.{◌≡◌, ℕ, ◌+◌, ◌<◌, length}
use Rattle.lane_model.specs.Lane.{bytes_of}
use Rattle.pair_model.specs.Pieces.{pieces_of}
use Rattle.pair_model.specs.Sizes.{sizes_of}
use Rattle.step_kinds.specs.Sides.{other_side}
use Rattle.bridge_pair.specs.Bridge.{pages_of, with_pages}
use Rattle.bridge_pair.specs.Pages.{PagesGrow}
use Rattle.frame_ring.specs.Outgoing.{entry_at}
use Rattle.frame_ring.specs.Promises.{IsEntryPromised, TouchesEntries}
use Rattle.frame_ring.proofs.rings.QueueRings.promise_frame.Given as goal

abbrev pub invariant-loop-k : goal.invariant-loop-k
invariant-loop-k l =
    record {
      rest : l.pair ≡ with_pages l.initial.pair (other_side l.self.side) (pages_of l.pair (other_side l.self.side));
      pages : PagesGrow (TouchesEntries l.self l.from (pieces_of (sizes_of l.self.plan l.self.side l.self.queue).largest l.frame)) (pages_of l.initial.pair (other_side l.self.side)) (pages_of l.pair (other_side l.self.side));
      done : (j : ℕ) → j < l.k → IsEntryPromised l.self (l.from + j) (length (bytes_of (entry_at (pieces_of (sizes_of l.self.plan l.self.side l.self.queue).largest l.frame) j))) (pages_of l.pair (other_side l.self.side));
    }
