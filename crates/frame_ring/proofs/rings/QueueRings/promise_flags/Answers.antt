use Rattle.std.proofs.Common.{◌≡◌, ◌∙◌, ℕ, ◌+◌, length, ap, subst, arith}
use Rattle.pair_model.specs.Addresses.{own_header}
use Rattle.pair_model.specs.Headers.{flags_offset}
use Rattle.host_memory.specs.Memory.{ArePromised, Touches}
use Rattle.step_kinds.specs.declared.names.Side.{Side}
use Rattle.step_kinds.specs.declared.plan.PairPlan.{PairPlan}
use Rattle.plan_numbers.specs.Memories.{memory_size}
use Rattle.bridge_pair.specs.Bridge.{bridge_bytes_of, pages_of, with_pages}
use Rattle.bridge_pair.specs.Pages.{PagesGrow}
use Rattle.frame_ring.proofs.EntryPages.{ok_map}
use Rattle.frame_ring.proofs.rings.QueueRings.promise_flags.Goals as goal

pub promise_range-requires : goal.promise_range-requires
promise_range-requires c =
    let rings = c.args.self.now in
    let size : length (bridge_bytes_of c.args.pair.now c.side.result) ≡ memory_size rings.plan rings.side =
    c.law.ensures.memories c.side.result ∙ ap (λ (plan : PairPlan). memory_size plan c.side.result) c.requires.plan ∙ ap (memory_size rings.plan) c.side.ensures.value in
    omega (arith, c.header_at.ensures.within, c.flags_offset.ensures.within, size)

pub returns-clause-rest : goal.returns-clause-rest
returns-clause-rest c = subst (λ (side : Side). c.promise_range.new.self ≡ with_pages c.args.pair.now side (pages_of c.promise_range.new.self side)) c.side.ensures.value c.promise_range.ensures.rest

pub returns-clause-pages : goal.returns-clause-pages
returns-clause-pages c =
    let rings = c.args.self.now in
    let at : c.header_at.result + c.flags_offset.result ≡ own_header rings.plan rings.side rings.queue c.args.n + flags_offset rings.plan =
    ap (λ at. at + c.flags_offset.result) c.header_at.ensures.value ∙ ap (λ offset. own_header rings.plan rings.side rings.queue c.args.n + offset) c.flags_offset.ensures.value in
    subst (λ (at : ℕ). PagesGrow (Touches at 4) (pages_of c.args.pair.now rings.side) (pages_of c.promise_range.new.self rings.side)) at
    (subst (λ (side : Side). PagesGrow (Touches (c.header_at.result + c.flags_offset.result) 4) (pages_of c.args.pair.now side) (pages_of c.promise_range.new.self side)) c.side.ensures.value c.promise_range.ensures.pages)

pub returns-clause-ok : goal.returns-clause-ok
returns-clause-ok c =
    let rings = c.args.self.now in
    let at : c.header_at.result + c.flags_offset.result ≡ own_header rings.plan rings.side rings.queue c.args.n + flags_offset rings.plan =
    ap (λ at. at + c.flags_offset.result) c.header_at.ensures.value ∙ ap (λ offset. own_header rings.plan rings.side rings.queue c.args.n + offset) c.flags_offset.ensures.value in
    ok_map (ArePromised (c.header_at.result + c.flags_offset.result) 4 (pages_of c.promise_range.new.self c.side.result)) (ArePromised (own_header rings.plan rings.side rings.queue c.args.n + flags_offset rings.plan) 4 (pages_of c.promise_range.new.self rings.side))
    c.promise_range.result
    (λ promised. subst (λ at. ArePromised at 4 (pages_of c.promise_range.new.self rings.side)) at (subst (λ (side : Side). ArePromised (c.header_at.result + c.flags_offset.result) 4 (pages_of c.promise_range.new.self side)) c.side.ensures.value promised))
    c.promise_range.ensures.ok
