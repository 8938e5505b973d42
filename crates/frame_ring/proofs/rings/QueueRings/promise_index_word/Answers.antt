use Rattle.std.proofs.Common.{◌∙◌, ℕ, OnOk, ap, subst}
use Rattle.bridge_pair.specs.Bridge.{pages_of}
use Rattle.bridge_pair.specs.Pages.{PagesGrow}
use Rattle.ring_geometry.specs.Geometry.{index_of}
use Rattle.step_kinds.specs.Sides.{other_side}
use Rattle.frame_ring.specs.Promises.{IsRangePromised, TouchesRange}
use Rattle.frame_ring.proofs.rings.QueueRings.promise_index_word.Goals as goal

pub returns-clause-pages : goal.returns-clause-pages
returns-clause-pages c =
    let rings = c.args.self.now in
    subst (λ (offset : ℕ). PagesGrow (TouchesRange rings offset 4) (pages_of c.args.pair.now (other_side rings.side)) (pages_of c.promise_bytes.new.pair (other_side rings.side))) (c.index_at-offset.ensures.value ∙ ap index_of c.out.ensures.value)
    c.promise_bytes.ensures.pages

pub returns-clause-ok : goal.returns-clause-ok
returns-clause-ok c =
    let rings = c.args.self.now in
    subst (λ (offset : ℕ). OnOk c.promise_bytes.result (IsRangePromised rings offset 4 (pages_of c.promise_bytes.new.pair (other_side rings.side)))) (c.index_at-offset.ensures.value ∙ ap index_of c.out.ensures.value)
    c.promise_bytes.ensures.ok
