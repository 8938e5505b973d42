use Rattle.std.proofs.Common.{◌≡◌, ℕ, ◌+◌, ◌-◌, ◌<◌, ◌≤◌, List, ap, ◌∙◌, sym, subst, arith}
use Rattle.pair_model.specs.Headers.{word_bytes}
use Rattle.host_memory.specs.Memory.{ArePromised, written}
use Rattle.pair_model.specs.DeclaredPlans.{IsPair}
use Rattle.pair_model.specs.Plans.{side_plan}
use Rattle.pair_model.specs.Sizes.{layout_of}
use Rattle.plan_numbers.specs.Memories.{WindowsFit, memory_size}
use Rattle.ring_geometry.specs.Geometry.{entries_of}
use Rattle.step_kinds.specs.declared.plan.PairPlan.{PairPlan}
use Rattle.bridge_pair.specs.Bridge.{Bridge, bridge_bytes_of, pages_of, with_bytes}
use Rattle.bridge_pair.proofs.IndexWords.{at_word, one_before}
use Rattle.bridge_pair.proofs.Sides.{bytes_again, pages_of-with_bytes}
use Rattle.bridge_pair.proofs.pair.Pair.set_index_words.Goals as goal

pub index_word_at-at-requires-clause-declared : goal.index_word_at-at-requires-clause-declared
index_word_at-at-requires-clause-declared c = subst IsPair (sym c.plan-in-loop-queue.ensures.value) c.plan-in-loop-queue.ensures.law.plan

pub index_word_at-at-requires-clause-among : goal.index_word_at-at-requires-clause-among
index_word_at-at-requires-clause-among c =
    let plans = c.plan-in-loop-queue.ensures.value ∙ ap (λ (bridge : Bridge). bridge.plan) c.loop-queue.invariant.so_far in
    subst (λ (plan : PairPlan). c.loop-queue.queue - 1 < (side_plan plan c.args.side).queues) (sym plans) (omega (arith, c.loop-queue.invariant.all, c.loop-queue.auto.queue, c.loop-queue-test.true))

pub index_word_at-at-requires-clause-fit : goal.index_word_at-at-requires-clause-fit
index_word_at-at-requires-clause-fit c =
    let plans = c.plan-in-loop-queue.ensures.value ∙ ap (λ (bridge : Bridge). bridge.plan) c.loop-queue.invariant.so_far in
    subst (λ (plan : PairPlan). WindowsFit plan c.args.side) (sym plans) c.requires.fit

pub sending_ring-requires-clause-declared : goal.sending_ring-requires-clause-declared
sending_ring-requires-clause-declared c = subst IsPair (sym c.plan-in-loop-queue-2.ensures.value) c.plan-in-loop-queue-2.ensures.law.plan

pub sending_ring-requires-clause-among : goal.sending_ring-requires-clause-among
sending_ring-requires-clause-among c =
    let plans = c.plan-in-loop-queue-2.ensures.value ∙ ap (λ (bridge : Bridge). bridge.plan) c.loop-queue.invariant.so_far in
    subst (λ (plan : PairPlan). c.loop-queue.queue - 1 < (side_plan plan c.args.side).queues) (sym plans) (omega (arith, c.loop-queue.invariant.all, c.loop-queue.auto.queue, c.loop-queue-test.true))

pub set_local_word-requires-clause-within : goal.set_local_word-requires-clause-within
set_local_word-requires-clause-within c =
    let within = subst (λ (plan : PairPlan). c.index_word_at-at.result + 4 ≤ memory_size plan c.args.side) c.plan-in-loop-queue.ensures.value c.index_word_at-at.ensures.within in
    omega (arith, within, c.plan-in-loop-queue.ensures.law.memories c.args.side)

pub set_local_word-requires-clause-promised : goal.set_local_word-requires-clause-promised
set_local_word-requires-clause-promised c =
    let plans = c.plan-in-loop-queue.ensures.value ∙ ap (λ (bridge : Bridge). bridge.plan) c.loop-queue.invariant.so_far in
    let at = at_word c.args.self.now.plan _ c.args.side (c.loop-queue.queue - 1) _ plans c.index_word_at-at.ensures.value in
    let pages : pages_of c.loop-queue.self c.args.side ≡ pages_of c.args.self.now c.args.side =
    ap (λ (bridge : Bridge). pages_of bridge c.args.side) c.loop-queue.invariant.so_far ∙ pages_of-with_bytes c.args.self.now c.args.side _ in
    subst (λ (promised : List ℕ). ArePromised c.index_word_at-at.result 4 promised) (sym pages)
    (subst (λ at. ArePromised at 4 (pages_of c.args.self.now c.args.side)) (sym at)
    (c.requires.promised (c.loop-queue.queue - 1) (omega (arith, c.loop-queue.invariant.all, c.loop-queue.auto.queue, c.loop-queue-test.true))))

pub loop-queue-preserved : goal.loop-queue-preserved
loop-queue-preserved c =
    let plans = c.plan-in-loop-queue.ensures.value ∙ ap (λ (bridge : Bridge). bridge.plan) c.loop-queue.invariant.so_far in
    let plans_2 = c.plan-in-loop-queue-2.ensures.value ∙ ap (λ (bridge : Bridge). bridge.plan) c.loop-queue.invariant.so_far in
    let queue = c.loop-queue.queue - 1 in
    let at = at_word c.args.self.now.plan _ c.args.side queue _ plans c.index_word_at-at.ensures.value in
    let entries : c.entries-last.result ≡ entries_of (layout_of c.args.self.now.plan c.args.side queue) =
    c.entries-last.ensures.value ∙ ap entries_of (c.sending_ring.ensures.value ∙ ap (λ (plan : PairPlan). layout_of plan c.args.side queue) plans_2) in
    let left = c.side_plan-queues.result.queues - c.loop-queue.queue in
    let stored =
    one_before c.args.self.now.plan c.args.side queue c.loop-queue.queue left (c.side_plan-queues.result.queues - queue) c.index_word_at-at.result c.entries-last.result
    (bridge_bytes_of c.args.self.now c.args.side) at entries (omega (arith, c.loop-queue-test.true)) (omega (arith, c.loop-queue-test.true, c.loop-queue.auto.queue)) in
    record {
      all = c.loop-queue.invariant.all;
      so_far =
          bytes_again c.args.self.now c.loop-queue.self c.set_local_word.new.self c.args.side _ (written c.index_word_at-at.result (word_bytes (c.entries-last.result - 1))) c.loop-queue.invariant.so_far c.set_local_word.ensures
          ∙ ap (λ stored. with_bytes c.args.self.now c.args.side stored) stored;
    }
