use Rattle.std.proofs.Common.{◌≡◌, ◌∙◌, ℕ, Contains, List, ap, is_some, length, refl, slice_index_or, subst, sym, arith}
use Rattle.host_memory.specs.Memory.{AreSameOnPage, Contents}
use Rattle.host_memory.specs.Pages.{page_at}
use Rattle.host_memory.proofs.Blank.{told_there}
use Rattle.host_memory.proofs.MemoryPages.{length-bytes_in}
use Rattle.host_memory.proofs.SameBetween.{AreSameOnFurther, is_promised, on_all_pages, one_page_more, same_between}
use Rattle.host_memory.proofs.memory.Memory.has_same_between.Goals as goal
use Rattle.host_memory.proofs.memory.Memory.has_same_between.Goals.{else-is_none-via-then-is_none+else-not-has_same_part, else-is_none-via-else-is_none}

pub loop-page-preserved : goal.loop-page-preserved
loop-page-preserved c =
    one_page_more c.deref-page-items.result.now c.loop-page.page-index (λ page. ¬ Contains c.args.self.now.promised page) c.args.from c.args.to c.args.self.now.bytes c.args.other.now.bytes c.loop-page.invariant
    (elim c.else-is_none.branch [
      | else-is_none-via-then-is_none+else-not-has_same_part w ↦ λ absent. w.has_same_part.ensures.0 (cc w.if-not-has_same_part.false)
      | else-is_none-via-else-is_none w ↦ λ absent. absurd (absent
          (is_promised c.self.inside c.args.self.now c.self.invariant c.self.view_is (slice_index_or c.deref-page-items.result.now c.loop-page.page-index 0)
          (told_there c.get.result _ (is_some c.get.result) c.get.ensures refl (cc (c.is_none.ensures, w.if-is_none.false)))))
    ])

pub returns : goal.returns
returns c =
    let items = c.deref-page-items.result.now in
    let promised : items ≡ c.args.other.now.promised = c.deref-page-items.ensures.value ∙ ap (λ (contents : Contents). contents.promised) c.other.view_is in
    let here : length c.args.self.now.bytes ≡ c.self.inside.len = ap (λ (contents : Contents). length contents.bytes) (sym c.self.view_is) ∙ length-bytes_in (page_at c.self.inside.pages.groups.items) c.self.inside.len in
    let there : length c.args.other.now.bytes ≡ c.other.inside.len = ap (λ (contents : Contents). length contents.bytes) (sym c.other.view_is) ∙ length-bytes_in (page_at c.other.inside.pages.groups.items) c.other.inside.len in
    let further : AreSameOnFurther c.args.from c.args.to c.args.self.now c.args.other.now =
    subst (λ (pages : List ℕ). (page : ℕ) → Contains pages page → ¬ Contains c.args.self.now.promised page → AreSameOnPage page c.args.from c.args.to c.args.self.now.bytes c.args.other.now.bytes) promised
    (on_all_pages items c.loop-page.page-index (λ page. ¬ Contains c.args.self.now.promised page) c.args.from c.args.to c.args.self.now.bytes c.args.other.now.bytes
    (λ less. omega (arith, less, c.loop-page-test.false)) c.loop-page.invariant) in (
      λ yes. same_between c.self.inside c.other.inside c.self.invariant c.other.invariant c.args.from c.args.to (omega (arith, here, c.requires.here)) (omega (arith, there, c.requires.there)) c.args.self.now c.args.other.now
          c.self.view_is c.other.view_is (c.has_same_on_own.ensures.0 (cc c.if-not-has_same_on_own.false)) further,
      λ same. refl,
    )
