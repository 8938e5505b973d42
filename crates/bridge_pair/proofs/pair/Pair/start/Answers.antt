use Rattle.std.proofs.Common.{◌≡◌, ap, ◌∙◌}
use Rattle.step_kinds.specs.declared.names.Side.TheVariants.{A, B}
use Rattle.bridge_pair.specs.Bridge.{Bridge, pages_of}
use Rattle.bridge_pair.proofs.FreshPairs.{fresh_up, word_pages}
use Rattle.bridge_pair.proofs.pair.Pair.start.Goals as goal

pub returns-clause-fresh : goal.returns-clause-fresh
returns-clause-fresh c =
    fresh_up c.args.plan.now c.args.self.now c.start_words.new.self c.start_words-2.new.self c.requires.up c.requires.zeros
    (rw c.in_ok-start_words.was at c.start_words.ensures.words) (rw c.in_ok-start_words-2.was at c.start_words-2.ensures.words)

pub returns-clause-pages_a : goal.returns-clause-pages_a
returns-clause-pages_a c =
    let first = rw c.in_ok-start_words.was at c.start_words.ensures.words in
    let second = rw c.in_ok-start_words-2.was at c.start_words-2.ensures.words in
    let pages : pages_of c.start_words-2.new.self A ≡ pages_of c.start_words.new.self A = ap (λ (bridge : Bridge). pages_of bridge A) second in
    rw pages
    (word_pages c.args.plan.now c.args.self.now.plan A (pages_of c.args.self.now A) _ c.requires.up
    (ap (λ (bridge : Bridge). bridge.plan) c.requires.zeros) (ap (λ (bridge : Bridge). pages_of bridge A) c.requires.zeros)
    (rw c.in_ok-start_words.was at c.start_words.ensures.pages) (rw c.in_ok-start_words.was at c.start_words.ensures.ok))

pub returns-clause-pages_b : goal.returns-clause-pages_b
returns-clause-pages_b c =
    let first = rw c.in_ok-start_words.was at c.start_words.ensures.words in
    word_pages c.args.plan.now c.start_words.new.self.plan B (pages_of c.start_words.new.self B) _ c.requires.up
    (ap (λ (bridge : Bridge). bridge.plan) first ∙ ap (λ (bridge : Bridge). bridge.plan) c.requires.zeros)
    (ap (λ (bridge : Bridge). pages_of bridge B) first ∙ ap (λ (bridge : Bridge). pages_of bridge B) c.requires.zeros)
    (rw c.in_ok-start_words-2.was at c.start_words-2.ensures.pages) (rw c.in_ok-start_words-2.was at c.start_words-2.ensures.ok)
