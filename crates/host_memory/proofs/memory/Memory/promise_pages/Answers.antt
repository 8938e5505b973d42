use Rattle.std.proofs.Common.{◌≡◌, ℕ, Contains, ⊎_elim, inr, sym, ◌∙◌, subst, arith}
use Rattle.std.proofs.lemmas.Bool.{cases_lt, false≢true}
use Rattle.host_memory.specs.Memory.{Touches}
use Rattle.host_memory.proofs.Pieces.{touches_between}
use Rattle.host_memory.proofs.memory.Memory.promise_pages.Goals as goal

pub returns-in_err-promise_page-clause-only : goal.returns-in_err-promise_page-clause-only
returns-in_err-promise_page-clause-only c =
    λ page among. ⊎_elim (λ was. c.loop-page.invariant.only page was)
    (λ same. let P : ℕ → Type 0 = λ p. Touches c.args.at c.args.len p in
    inr (subst P (sym same) (touches_between c.args.at c.args.len c.loop-page.page c.if-len-gt0.true c.loop-page.auto.page c.loop-page-test.true)))
    (c.promise_page.ensures.only page among)

pub returns-in_err-promise_page-clause-had : goal.returns-in_err-promise_page-clause-had
returns-in_err-promise_page-clause-had c =
    λ all.
    let touched = touches_between c.args.at c.args.len c.loop-page.page c.if-len-gt0.true c.loop-page.auto.page c.loop-page-test.true in
    let promised = c.loop-page.invariant.stay c.loop-page.page (all c.loop-page.page touched) in
    absurd (false≢true (c.in_err-promise_page.ensures.had promised).0)

pub loop-page-preserved : goal.loop-page-preserved
loop-page-preserved c =
    let touched = touches_between c.args.at c.args.len c.loop-page.page c.if-len-gt0.true c.loop-page.auto.page c.loop-page-test.true in
    record {
      bytes = c.promise_page.ensures.bytes ∙ c.loop-page.invariant.bytes;
      so_far = λ page from to. ⊎_elim (λ below. c.promise_page.ensures.stay page (c.loop-page.invariant.so_far page from below))
          (λ last. let P : ℕ → Type 0 = λ p. Contains c.promise_page.new.self.promised p in
          let same : c.loop-page.page ≡ page = omega (arith, to, last) in subst P same c.in_ok-promise_page.ensures.ok)
          (cases_lt page c.loop-page.page);
      stay = λ page among. c.promise_page.ensures.stay page (c.loop-page.invariant.stay page among);
      only = λ page among. ⊎_elim (λ was. c.loop-page.invariant.only page was)
          (λ same. let P : ℕ → Type 0 = λ p. Touches c.args.at c.args.len p in inr (subst P (sym same) touched))
          (c.promise_page.ensures.only page among);
      had = λ all. (c.promise_page.ensures.had (c.loop-page.invariant.stay c.loop-page.page (all c.loop-page.page touched))).1 ∙ c.loop-page.invariant.had all;
    }
