use Rattle.std.proofs.Common.{◌≡◌, ◌-◌, map}
use Rattle.lane_model.specs.Lane.{count_from}
use Rattle.pair_model.specs.FreshRings.{fresh_index_word}
use Rattle.pair_model.specs.Plans.{side_plan}
use Rattle.bridge_pair.specs.Bridge.{bridge_bytes_of, with_bytes}
use Rattle.bridge_pair.specs.Ends.{bytes_after}
use Rattle.bridge_pair.proofs.pair.Pair.set_index_words.Given as goal

abbrev pub invariant-loop-queue : goal.invariant-loop-queue
invariant-loop-queue l =
    record {
      all : l.queues ≡ (side_plan l.initial.self.plan l.side).queues;
      so_far : l.self ≡ with_bytes l.initial.self l.side (bytes_after (map (fresh_index_word l.initial.self.plan l.side) (count_from l.queue (l.queues - l.queue))) (bridge_bytes_of l.initial.self l.side));
    }
