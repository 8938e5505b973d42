use Rattle.std.proofs.Common.{◌≡◌, ◌∙◌, ap, sym, subst, arith}
use Rattle.pair_model.specs.Addresses.{own_header}
use Rattle.pair_model.specs.DeclaredPlans.{IsPair}
use Rattle.pair_model.specs.Sizes.{header_bytes}
use Rattle.bridge_pair.specs.Bridge.{pages_of}
use Rattle.hand_shake.proofs.HeaderPages.{at_same, few_bytes, zeros_over, zeros_promised, zeros_size}
use Rattle.hand_shake.proofs.headers.zero_header.Goals as goal

pub header_at-at-requires-clause-declared : goal.header_at-at-requires-clause-declared
header_at-at-requires-clause-declared c = subst IsPair (sym c.plan.ensures.value) c.plan.ensures.law.plan

pub slice_bounds-zeros-end : goal.slice_bounds-zeros-end
slice_bounds-zeros-end c = omega (arith, c.header_bytes-len.ensures, few_bytes c.plan-2.result.now)

pub slice_bounds-local_write-end : goal.slice_bounds-local_write-end
slice_bounds-local_write-end c = c.header_bytes-len.ensures ∙ sym (zeros_size c.plan-2.result.now c.header_bytes-len.result c.header_bytes-len.ensures)

pub local_write-requires-clause-within : goal.local_write-requires-clause-within
local_write-requires-clause-within c =
    let size = zeros_size c.plan-2.result.now c.header_bytes-len.result c.header_bytes-len.ensures in
    let len : header_bytes c.plan-2.result.now ≡ header_bytes c.args.pair.now.plan = ap header_bytes c.plan-2.ensures.value in
    let within = rw c.plan.ensures.value at c.header_at-at.ensures.within in
    omega (arith, size, len, within, c.plan.ensures.law.memories c.args.side)

pub local_write-requires-clause-promised : goal.local_write-requires-clause-promised
local_write-requires-clause-promised c =
    let plan = c.args.pair.now.plan in
    let at = at_same plan c.plan.result.now c.args.side c.args.ring.now.queue c.args.n c.header_at-at.result c.plan.ensures.value c.header_at-at.ensures.value in
    zeros_promised plan (own_header plan c.args.side c.args.ring.now.queue c.args.n) c.header_at-at.result c.header_bytes-len.result (pages_of c.args.pair.now c.args.side) at
    (c.header_bytes-len.ensures ∙ ap header_bytes c.plan-2.ensures.value) c.requires.promised

pub returns : goal.returns
returns c =
    let pair = c.args.pair.now in
    let at = at_same pair.plan c.plan.result.now c.args.side c.args.ring.now.queue c.args.n c.header_at-at.result c.plan.ensures.value c.header_at-at.ensures.value in
    c.local_write.ensures
    ∙ zeros_over pair c.args.side (own_header pair.plan c.args.side c.args.ring.now.queue c.args.n) c.header_at-at.result c.header_bytes-len.result at (c.header_bytes-len.ensures ∙ ap header_bytes c.plan-2.ensures.value)
