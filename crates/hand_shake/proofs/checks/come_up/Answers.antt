use Rattle.std.proofs.Common.{◌≡◌, ◌∙◌, List, ℕ, inl, ap, sym, subst}
use Rattle.step_kinds.specs.declared.plan.PairPlan.{PairPlan}
use Rattle.bridge_pair.specs.Bridge.{Bridge, bridge_bytes_of, pages_of}
use Rattle.bridge_pair.specs.Pages.{PagesGrow}
use Rattle.bridge_pair.specs.Words.{AreIndexWordsPromised}
use Rattle.bridge_pair.proofs.Facade.{grows_further, grows_nothing, pages_again, pages_of-with_bytes}
use Rattle.hand_shake.specs.Checks.{TouchesAnyRing}
use Rattle.hand_shake.specs.Headers.{AreHeadersReady, TouchesHeader}
use Rattle.hand_shake.proofs.ComingUp.{came_up_is, headers_still, rings_grow, rings_ready}
use Rattle.hand_shake.proofs.HeaderPages.{seen_since}
use Rattle.hand_shake.proofs.checks.come_up.Goals as goal

pub returns-in_err-promise_headers-clause-pages : goal.returns-in_err-promise_headers-clause-pages
returns-in_err-promise_headers-clause-pages c =
    let bytes = bridge_bytes_of c.args.pair.now c.args.side in
    grows_further (TouchesAnyRing c.args.pair.now.plan c.args.side bytes) (TouchesHeader c.args.pair.now.plan c.args.side bytes) _ _ _
    (grows_nothing (TouchesAnyRing c.args.pair.now.plan c.args.side bytes) (pages_of c.args.pair.now c.args.side)) c.promise_headers.ensures.grown.pages (λ page touch. inl touch)

pub returns-in_err-promise_index_words-clause-pages : goal.returns-in_err-promise_index_words-clause-pages
returns-in_err-promise_index_words-clause-pages c =
    rings_grow c.args.pair.now.plan c.promise_headers.new.pair.plan c.args.side (bridge_bytes_of c.args.pair.now c.args.side) _ _ _ (ap (λ (bridge : Bridge). bridge.plan) c.promise_headers.ensures.grown.rest) c.promise_headers.ensures.grown.pages c.promise_index_words.ensures.grown.pages

pub zero_headers-requires-clause-ready : goal.zero_headers-requires-clause-ready
zero_headers-requires-clause-ready c =
    seen_since c.args.pair.now c.promise_index_words.new.self c.args.side (λ plan bytes. AreHeadersReady plan c.args.side bytes (pages_of c.promise_index_words.new.self c.args.side))
    (pages_again c.args.pair.now c.promise_headers.new.pair c.promise_index_words.new.self c.args.side c.promise_headers.ensures.grown.rest c.promise_index_words.ensures.grown.rest)
    (headers_still c.args.pair.now.plan c.promise_headers.new.pair.plan c.args.side (bridge_bytes_of c.args.pair.now c.args.side) _ _ c.promise_index_words.ensures.grown.pages (rw c.in_ok-promise_headers.was at c.promise_headers.ensures.ok))

pub set_index_words-requires-clause-promised : goal.set_index_words-requires-clause-promised
set_index_words-requires-clause-promised c =
    let same = ap (λ (bridge : Bridge). bridge.plan) c.zero_headers.ensures ∙ ap (λ (bridge : Bridge). bridge.plan) c.promise_index_words.ensures.grown.rest in
    let pages : pages_of c.zero_headers.new.pair c.args.side ≡ pages_of c.promise_index_words.new.self c.args.side =
    ap (λ (bridge : Bridge). pages_of bridge c.args.side) c.zero_headers.ensures ∙ pages_of-with_bytes c.promise_index_words.new.self c.args.side _ in
    subst (λ (plan : PairPlan). AreIndexWordsPromised plan c.args.side (pages_of c.zero_headers.new.pair c.args.side)) (sym same)
    (subst (λ (pages : List ℕ). AreIndexWordsPromised c.promise_headers.new.pair.plan c.args.side pages) (sym pages) (rw c.in_ok-promise_index_words.was at c.promise_index_words.ensures.ok))

pub returns-clause-ok : goal.returns-clause-ok
returns-clause-ok c =
    (came_up_is c.args.pair.now c.promise_headers.new.pair c.promise_index_words.new.self c.zero_headers.new.pair c.set_index_words.new.self c.set_book.new.self c.args.side
    (record { first = c.promise_headers.ensures.grown.rest; second = c.promise_index_words.ensures.grown.rest; zeroes = c.zero_headers.ensures; sets = c.set_index_words.ensures; keeps = rw c.book-book.ensures.value at c.set_book.ensures })).0

pub returns-clause-pages : goal.returns-clause-pages
returns-clause-pages c =
    let pages =
    (came_up_is c.args.pair.now c.promise_headers.new.pair c.promise_index_words.new.self c.zero_headers.new.pair c.set_index_words.new.self c.set_book.new.self c.args.side
    (record { first = c.promise_headers.ensures.grown.rest; second = c.promise_index_words.ensures.grown.rest; zeroes = c.zero_headers.ensures; sets = c.set_index_words.ensures; keeps = rw c.book-book.ensures.value at c.set_book.ensures })).1 in
    subst (λ (pages : List ℕ). PagesGrow (TouchesAnyRing c.args.pair.now.plan c.args.side (bridge_bytes_of c.args.pair.now c.args.side)) (pages_of c.args.pair.now c.args.side) pages) (sym pages)
    (rings_grow c.args.pair.now.plan c.promise_headers.new.pair.plan c.args.side (bridge_bytes_of c.args.pair.now c.args.side) _ _ _ (ap (λ (bridge : Bridge). bridge.plan) c.promise_headers.ensures.grown.rest) c.promise_headers.ensures.grown.pages c.promise_index_words.ensures.grown.pages)

pub returns-clause-ready : goal.returns-clause-ready
returns-clause-ready c =
    let pages =
    (came_up_is c.args.pair.now c.promise_headers.new.pair c.promise_index_words.new.self c.zero_headers.new.pair c.set_index_words.new.self c.set_book.new.self c.args.side
    (record { first = c.promise_headers.ensures.grown.rest; second = c.promise_index_words.ensures.grown.rest; zeroes = c.zero_headers.ensures; sets = c.set_index_words.ensures; keeps = rw c.book-book.ensures.value at c.set_book.ensures })).1 in
    rings_ready c.args.pair.now.plan c.promise_headers.new.pair.plan c.args.side (bridge_bytes_of c.args.pair.now c.args.side) _ _ _ (ap (λ (bridge : Bridge). bridge.plan) c.promise_headers.ensures.grown.rest) c.promise_index_words.ensures.grown.pages pages
    (rw c.in_ok-promise_headers.was at c.promise_headers.ensures.ok) (rw c.in_ok-promise_index_words.was at c.promise_index_words.ensures.ok)
