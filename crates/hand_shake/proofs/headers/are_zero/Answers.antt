use Rattle.std.proofs.Common.{◌∙◌, ◌-◌, ◌≤◌, sym, subst, arith}
use Rattle.pair_model.specs.DeclaredPlans.{IsPair}
use Rattle.plan_numbers.specs.Memories.{WindowsFit}
use Rattle.step_kinds.specs.declared.plan.PairPlan.{PairPlan}
use Rattle.ring_geometry.specs.Geometry.{Layout, entries_of}
use Rattle.bridge_pair.specs.Bridge.{bridge_bytes_of}
use Rattle.hand_shake.proofs.HeaderPages.{at_same}
use Rattle.hand_shake.proofs.SomeHeaders.{span_within, span_zeroed}
use Rattle.hand_shake.proofs.headers.are_zero.Goals as goal

pub is_zero-requires-clause-within : goal.is_zero-requires-clause-within
is_zero-requires-clause-within c =
    let slots = subst (λ (l : Layout). c.args.to ≤ entries_of l) c.requires.ring.0 c.requires.slots in
    let within =
    span_within c.args.pair.now.plan _ c.args.side c.args.ring.now.queue c.args.from c.args.to _ _ _ c.from.result _ c.plan-plan.ensures.value c.requires.some slots c.header_at-first.ensures.value c.header_at-last.ensures.value
    (c.from.ensures ∙ c.header_bytes.ensures) c.saturating_sub.ensures (rw c.plan-plan.ensures.value at c.header_at-last.ensures.within) in
    omega (arith, within, c.plan-plan.ensures.law.memories c.args.side)

pub is_blank-requires : goal.is_blank-requires
is_blank-requires c =
    let slots = subst (λ (l : Layout). c.args.to ≤ entries_of l) c.requires.ring.0 c.requires.slots in
    let within =
    span_within c.args.pair.now.plan _ c.args.side c.args.ring.now.queue c.args.from c.args.to _ _ _ c.from.result _ c.plan-plan.ensures.value c.requires.some slots c.header_at-first.ensures.value c.header_at-last.ensures.value
    (c.from.ensures ∙ c.header_bytes.ensures) c.saturating_sub.ensures (rw c.plan-plan.ensures.value at c.header_at-last.ensures.within) in
    omega (arith, within, c.plan-plan.ensures.law.memories c.args.side)

pub returns-then-len-from-clause-zero : goal.returns-then-len-from-clause-zero
returns-then-len-from-clause-zero c =
    λ yes.
    let slots = subst (λ (l : Layout). c.args.to ≤ entries_of l) c.requires.ring.0 c.requires.slots in
    span_zeroed c.args.pair.now.plan _ c.args.side c.args.ring.now.queue c.args.from c.args.to _ _ _ c.from.result (bridge_bytes_of c.args.pair.now c.args.side) c.plan-plan.ensures.value c.requires.some slots
    c.header_at-first.ensures.value c.header_at-last.ensures.value (c.from.ensures ∙ c.header_bytes.ensures) c.saturating_sub.ensures (c.is_zero.ensures.0 yes)

pub returns-else-len-from-clause-zero : goal.returns-else-len-from-clause-zero
returns-else-len-from-clause-zero c =
    λ yes.
    let slots = subst (λ (l : Layout). c.args.to ≤ entries_of l) c.requires.ring.0 c.requires.slots in
    span_zeroed c.args.pair.now.plan _ c.args.side c.args.ring.now.queue c.args.from c.args.to _ _ _ c.from.result (bridge_bytes_of c.args.pair.now c.args.side) c.plan-plan.ensures.value c.requires.some slots
    c.header_at-first.ensures.value c.header_at-last.ensures.value (c.from.ensures ∙ c.header_bytes.ensures) c.saturating_sub.ensures (c.is_blank.ensures.zeros yes)

pub header_at-last-requires-clause-declared : goal.header_at-last-requires-clause-declared
header_at-last-requires-clause-declared c = subst IsPair (sym c.plan-plan.ensures.value) c.plan-plan.ensures.law.plan

pub header_at-last-requires-clause-fit : goal.header_at-last-requires-clause-fit
header_at-last-requires-clause-fit c = subst (λ (plan : PairPlan). WindowsFit plan c.args.side) (sym c.plan-plan.ensures.value) c.requires.fit

pub returns-then-len-from-clause-within : goal.returns-then-len-from-clause-within
returns-then-len-from-clause-within c =
    let last = at_same c.args.pair.now.plan c.plan-plan.result.now c.args.side c.args.ring.now.queue (c.args.to - 1) c.header_at-last.result c.plan-plan.ensures.value c.header_at-last.ensures.value in
    let within = rw c.plan-plan.ensures.value at c.header_at-last.ensures.within in
    omega (arith, last, within, c.plan-plan.ensures.law.memories c.args.side)

pub returns-else-len-from-clause-within : goal.returns-else-len-from-clause-within
returns-else-len-from-clause-within c =
    let last = at_same c.args.pair.now.plan c.plan-plan.result.now c.args.side c.args.ring.now.queue (c.args.to - 1) c.header_at-last.result c.plan-plan.ensures.value c.header_at-last.ensures.value in
    let within = rw c.plan-plan.ensures.value at c.header_at-last.ensures.within in
    omega (arith, last, within, c.plan-plan.ensures.law.memories c.args.side)
