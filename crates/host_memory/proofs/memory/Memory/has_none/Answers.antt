use Rattle.std.proofs.Common.{◌≡◌, ℕ, IsSome, Contains, refl, sym, subst, ⊎_elim, arith}
use Rattle.std.proofs.lemmas.Bool.{cases_lt}
use Rattle.host_memory.specs.Memory.{Contents}
use Rattle.host_memory.specs.Pages.{page_at}
use Rattle.host_memory.proofs.Blank.{told_absent, told_there}
use Rattle.host_memory.proofs.memory.Memory.has_none.Goals as goal

pub returns-then-is_some : goal.returns-then-is_some
returns-then-is_some c =
    let there = subst (λ (contents : Contents). Contains contents.promised c.loop-number.number) c.self.view_is (c.self.invariant.among c.loop-number.number (told_there c.get.result _ c.is_some.result c.get.ensures c.is_some.ensures c.if-is_some.true)) in
    (λ no. absurd (cc no), λ none. absurd (none c.loop-number.number c.loop-number.auto.number (omega (arith, c.loop-number-test.true)) there))

pub loop-number-init : goal.loop-number-init
loop-number-init c = λ page from to. absurd (omega (arith, from, to))

pub loop-number-preserved : goal.loop-number-preserved
loop-number-preserved c =
    λ page from to among.
    ⊎_elim (λ below. c.loop-number.invariant page from below among)
    (λ last.
    let same : page ≡ c.loop-number.number = omega (arith, to, last) in
    let here = subst (λ (contents : Contents). Contains contents.promised page) (sym c.self.view_is) among in
    let some = subst (λ (n : ℕ). IsSome (page_at c.self.inside.pages.groups.items n)) same (c.self.invariant.there page here) in
    told_absent c.get.result _ c.is_some.result c.get.ensures c.is_some.ensures c.if-is_some.false some)
    (cases_lt page c.loop-number.number)

pub returns : goal.returns
returns c = (λ yes page from to among. c.loop-number.invariant page from (omega (arith, to, c.loop-number-test.false)) among, λ none. refl)
