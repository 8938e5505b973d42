use Rattle.std.proofs.Common.{List, ℕ, ap, sym, subst}
use Rattle.step_kinds.specs.declared.plan.PairPlan.{PairPlan}
use Rattle.bridge_pair.specs.Bridge.{Bridge, pages_of}
use Rattle.bridge_pair.specs.Pages.{PagesGrow}
use Rattle.bridge_pair.specs.Words.{AreIndexWordsPromised, TouchesIndexWord}
use Rattle.bridge_pair.proofs.FreshPairs.{then_started}
use Rattle.bridge_pair.proofs.pair.Pair.start_words.Goals as goal

pub set_index_words-requires-clause-promised : goal.set_index_words-requires-clause-promised
set_index_words-requires-clause-promised c =
    subst (λ (plan : PairPlan). AreIndexWordsPromised plan c.args.side (pages_of c.promise_index_words.new.self c.args.side)) (sym (ap (λ (bridge : Bridge). bridge.plan) c.promise_index_words.ensures.grown.rest))
    (rw c.in_ok-promise_index_words.was at c.promise_index_words.ensures.ok)

pub returns-clause-words : goal.returns-clause-words
returns-clause-words c = (then_started c.args.self.now c.promise_index_words.new.self c.set_index_words.new.self c.args.side c.promise_index_words.ensures.grown.rest c.set_index_words.ensures).0

pub returns-clause-pages : goal.returns-clause-pages
returns-clause-pages c =
    let pages = (then_started c.args.self.now c.promise_index_words.new.self c.set_index_words.new.self c.args.side c.promise_index_words.ensures.grown.rest c.set_index_words.ensures).1 in
    subst (λ (pages : List ℕ). PagesGrow (TouchesIndexWord c.args.self.now.plan c.args.side) (pages_of c.args.self.now c.args.side) pages) (sym pages) c.promise_index_words.ensures.grown.pages

pub returns-clause-ok : goal.returns-clause-ok
returns-clause-ok c =
    let pages = (then_started c.args.self.now c.promise_index_words.new.self c.set_index_words.new.self c.args.side c.promise_index_words.ensures.grown.rest c.set_index_words.ensures).1 in
    subst (λ (pages : List ℕ). AreIndexWordsPromised c.args.self.now.plan c.args.side pages) (sym pages) (rw c.in_ok-promise_index_words.was at c.promise_index_words.ensures.ok)
