use Rattle.std.proofs.Common.{◌≡◌, ◌-◌}
use Rattle.std.specs.List.{flat_map}
use Rattle.lane_model.specs.Lane.{count_from}
use Rattle.pair_model.specs.Plans.{side_plan}
use Rattle.bridge_pair.specs.Bridge.{bridge_bytes_of, with_bytes}
use Rattle.bridge_pair.specs.Ends.{bytes_after}
use Rattle.hand_shake.specs.Headers.{ring_stores}
use Rattle.hand_shake.proofs.headers.zero_headers.Given as goal

abbrev pub invariant-loop-queue : goal.invariant-loop-queue
invariant-loop-queue l =
    record {
      all : l.queues ≡ (side_plan l.initial.pair.plan l.side).queues;
      so_far : l.pair ≡ with_bytes l.initial.pair l.side (bytes_after (flat_map (ring_stores l.initial.pair.plan l.side) (count_from l.queue (l.queues - l.queue))) (bridge_bytes_of l.initial.pair l.side));
    }
