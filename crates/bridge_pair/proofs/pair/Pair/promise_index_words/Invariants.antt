use Rattle.std.proofs.Common.{◌≡◌, ℕ, ◌<◌}
use Rattle.pair_model.specs.Addresses.{own_index_word}
use Rattle.host_memory.specs.Memory.{ArePromised}
use Rattle.pair_model.specs.Plans.{side_plan}
use Rattle.bridge_pair.specs.Bridge.{pages_of}
use Rattle.bridge_pair.specs.Pages.{OnlyPagesGrow}
use Rattle.bridge_pair.specs.Words.{TouchesIndexWord}
use Rattle.bridge_pair.proofs.pair.Pair.promise_index_words.Given as goal

abbrev pub invariant-loop-queue : goal.invariant-loop-queue
invariant-loop-queue l =
    record {
      all : l.queues ≡ (side_plan l.initial.self.plan l.side).queues;
      grown : OnlyPagesGrow (TouchesIndexWord l.initial.self.plan l.side) l.side l.initial.self l.self;
      done : (k : ℕ) → k < l.queue → ArePromised (own_index_word l.initial.self.plan l.side k) 4 (pages_of l.self l.side);
    }
