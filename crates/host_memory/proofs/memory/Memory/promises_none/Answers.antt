use Rattle.std.proofs.Common.{◌≡◌, ℕ, List, refl, subst, sym, ap, ◌∙◌, arith}
use Rattle.host_memory.specs.Memory.{AreNotAmong, Contents}
use Rattle.host_memory.proofs.Blank.{inside_not, outside_all, outside_more}
use Rattle.host_memory.proofs.memory.Memory.promises_none.Goals as goal
use Rattle.host_memory.proofs.memory.Memory.promises_none.Goals.{else-first-page-via-then-first-page+else-page-last, else-first-page-via-else-first-page}

pub loop-page-init : goal.loop-page-init
loop-page-init c = λ k less. absurd (omega (arith, less))

pub returns-then-page-last : goal.returns-then-page-last
returns-then-page-last c =
    let items = c.deref-page-items.result.now in
    let promised : items ≡ c.args.self.now.promised = c.deref-page-items.ensures.value ∙ ap (λ (contents : Contents). contents.promised) c.self.view_is in (
      λ no. absurd (cc no),
      λ none. absurd (inside_not c.args.first c.args.last c.loop-page.page-index items c.loop-page-test.true c.if-first-page.true c.if-page-last.true
          (subst (λ (pages : List ℕ). AreNotAmong c.args.first c.args.last pages) (sym promised) none)),
    )

pub loop-page-preserved : goal.loop-page-preserved
loop-page-preserved c =
    outside_more c.args.first c.args.last c.loop-page.page-index c.deref-page-items.result.now c.loop-page.invariant
    (elim c.else-first-page.branch [
      | else-first-page-via-then-first-page+else-page-last w ↦ λ from to. omega (arith, to, w.if-page-last.false)
      | else-first-page-via-else-first-page w ↦ λ from to. omega (arith, from, w.if-first-page.false)
    ])

pub returns : goal.returns
returns c =
    let items = c.deref-page-items.result.now in
    let promised : items ≡ c.args.self.now.promised = c.deref-page-items.ensures.value ∙ ap (λ (contents : Contents). contents.promised) c.self.view_is in (
      λ yes. subst (λ (pages : List ℕ). AreNotAmong c.args.first c.args.last pages) promised
          (outside_all c.args.first c.args.last c.loop-page.page-index items (λ less. omega (arith, less, c.loop-page-test.false)) c.loop-page.invariant),
      λ none. refl,
    )
