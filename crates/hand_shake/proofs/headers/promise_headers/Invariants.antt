use Rattle.std.proofs.Common.{◌≡◌, ℕ, ◌<◌}
use Rattle.pair_model.specs.Plans.{side_plan}
use Rattle.bridge_pair.specs.Bridge.{bridge_bytes_of, pages_of}
use Rattle.bridge_pair.specs.Pages.{OnlyPagesGrow}
use Rattle.hand_shake.specs.Headers.{AreHeadersOfReady, TouchesHeader}
use Rattle.hand_shake.proofs.headers.promise_headers.Given as goal

abbrev pub invariant-loop-queue : goal.invariant-loop-queue
invariant-loop-queue l =
    record {
      all : l.queues ≡ (side_plan l.initial.pair.plan l.side).queues;
      grown : OnlyPagesGrow (TouchesHeader l.initial.pair.plan l.side (bridge_bytes_of l.initial.pair l.side)) l.side l.initial.pair l.pair;
      done : (k : ℕ) → k < l.queue → AreHeadersOfReady l.initial.pair.plan l.side k (bridge_bytes_of l.initial.pair l.side) (pages_of l.pair l.side);
    }
