use Rattle.std.proofs.Common.{ap, ◌∙◌, arith}
use Rattle.bridge_pair.specs.Bridge.{Bridge}
use Rattle.bridge_pair.proofs.IndexWords.{at_word, word_grows, word_promised}
use Rattle.bridge_pair.proofs.Sides.{pages_again}
use Rattle.bridge_pair.proofs.pair.Pair.promise_index_words.Goals as goal

pub returns-in_err-promise_range-clause-grown : goal.returns-in_err-promise_range-clause-grown
returns-in_err-promise_range-clause-grown c =
    let plans = c.plan-in-loop-queue.ensures.value ∙ ap (λ (bridge : Bridge). bridge.plan) c.loop-queue.invariant.grown.rest in
    let at = at_word c.args.self.now.plan _ c.args.side c.loop-queue.queue _ plans c.index_word_at-at.ensures.value in
    let grown = word_grows c.args.self.now.plan c.args.side c.loop-queue.queue c.index_word_at-at.result _ _ _ at (omega (arith, c.loop-queue.invariant.all, c.loop-queue-test.true)) c.loop-queue.invariant.grown.pages c.promise_range.ensures.pages in
    record { rest = pages_again c.args.self.now c.loop-queue.self c.promise_range.new.self c.args.side c.loop-queue.invariant.grown.rest c.promise_range.ensures.rest; pages = grown }

pub loop-queue-preserved : goal.loop-queue-preserved
loop-queue-preserved c =
    let plans = c.plan-in-loop-queue.ensures.value ∙ ap (λ (bridge : Bridge). bridge.plan) c.loop-queue.invariant.grown.rest in
    let at = at_word c.args.self.now.plan _ c.args.side c.loop-queue.queue _ plans c.index_word_at-at.ensures.value in
    let grown = word_grows c.args.self.now.plan c.args.side c.loop-queue.queue c.index_word_at-at.result _ _ _ at (omega (arith, c.loop-queue.invariant.all, c.loop-queue-test.true)) c.loop-queue.invariant.grown.pages c.promise_range.ensures.pages in
    record {
      all = c.loop-queue.invariant.all;
      grown = record { rest = pages_again c.args.self.now c.loop-queue.self c.promise_range.new.self c.args.side c.loop-queue.invariant.grown.rest c.promise_range.ensures.rest; pages = grown };
      done = word_promised c.args.self.now.plan c.args.side c.loop-queue.queue c.index_word_at-at.result _ _ at c.loop-queue.invariant.done c.promise_range.ensures.pages (rw c.in_ok-promise_range.was at c.promise_range.ensures.ok);
    }

pub returns-clause-ok : goal.returns-clause-ok
returns-clause-ok c = λ queue less. c.loop-queue.invariant.done queue (omega (arith, less, c.loop-queue.invariant.all, c.loop-queue-test.false))
