use Rattle.std.proofs.Common.{◌≡◌, ◌∙◌, ◌<◌, ap, subst}
use Rattle.pair_model.specs.Sizes.{header_bytes, layout_to}
use Rattle.ring_geometry.specs.Geometry.{Layout, entries_of}
use Rattle.bridge_pair.specs.Bridge.{bridge_bytes_of}
use Rattle.hand_shake.proofs.HeaderPages.{at_same, one_grows, one_promised}
use Rattle.hand_shake.proofs.headers.promise_header.Goals as goal

pub returns-clause-grown : goal.returns-clause-grown
returns-clause-grown c =
    let plan = c.args.pair.now.plan in
    let queue = c.args.ring.now.queue in
    let slot : c.args.n < entries_of (layout_to plan c.args.side queue) = subst (λ (l : Layout). c.args.n < entries_of l) c.requires.ring.0 c.requires.slot in
    let at = at_same plan _ c.args.side queue c.args.n _ c.plan.ensures.value c.header_at-at.ensures.value in
    let len : c.from-len.result ≡ header_bytes plan = c.from-len.ensures ∙ c.header_bytes.ensures ∙ ap header_bytes c.plan-2.ensures.value in
    record {
      rest = c.promise_range.ensures.rest;
      pages = one_grows plan c.args.side queue c.args.n _ _ (bridge_bytes_of c.args.pair.now c.args.side) _ _ at len slot c.requires.nonzero c.promise_range.ensures.pages;
    }

pub returns-clause-ok : goal.returns-clause-ok
returns-clause-ok c =
    let plan = c.args.pair.now.plan in
    let at = at_same plan _ c.args.side c.args.ring.now.queue c.args.n _ c.plan.ensures.value c.header_at-at.ensures.value in
    let len : c.from-len.result ≡ header_bytes plan = c.from-len.ensures ∙ c.header_bytes.ensures ∙ ap header_bytes c.plan-2.ensures.value in
    one_promised _ _ _ _ _ c.promise_range.result at len c.promise_range.ensures.ok
