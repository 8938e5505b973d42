use Rattle.std.proofs.Common.{◌↔◌, ◌∙◌, IsTrue, List, ap, refl, subst, sym}
use Rattle.step_kinds.specs.declared.names.Side.TheVariants.{A, B}
use Rattle.fabric_rule.specs.Parts.{PairState, QueuePart}
use Rattle.fabric_core.specs.PairBoxes.{pair_seen}
use Rattle.fabric_core.specs.Same.{AreOfOneSide, AreSameParts, HasSameQueues, plan_at}
use Rattle.fabric_core.proofs.SameParts.{both_else, both_then, of_one_side, queues_test}
use Rattle.fabric_core.proofs.pairs.PairBox.has_same_queues.Goals as goal

pub are_same_queues-requires : goal.are_same_queues-requires
are_same_queues-requires c =
    let plans = ap plan_at c.self.view_is ∙ c.requires ∙ sym (ap plan_at c.other.view_is) in
    subst (λ (parts : List QueuePart). AreOfOneSide parts c.deref-2.result.now) (sym c.deref.ensures.value)
    (subst (λ (parts : List QueuePart). AreOfOneSide c.self.inside.queues_a.items parts) (sym c.deref-2.ensures.value)
    (of_one_side (pair_seen c.self.inside) (pair_seen c.other.inside) c.self.invariant c.other.invariant plans A))

pub are_same_queues-requires-then-are_same_queues : goal.are_same_queues-requires-then-are_same_queues
are_same_queues-requires-then-are_same_queues c =
    let plans = ap plan_at c.self.view_is ∙ c.requires ∙ sym (ap plan_at c.other.view_is) in
    subst (λ (parts : List QueuePart). AreOfOneSide parts c.deref-then-are_same_queues-2.result.now) (sym c.deref-then-are_same_queues.ensures.value)
    (subst (λ (parts : List QueuePart). AreOfOneSide c.self.inside.queues_b.items parts) (sym c.deref-then-are_same_queues-2.ensures.value)
    (of_one_side (pair_seen c.self.inside) (pair_seen c.other.inside) c.self.invariant c.other.invariant plans B))

pub returns-then-are_same_queues : goal.returns-then-are_same_queues
returns-then-are_same_queues c =
    let one = pair_seen c.self.inside in
    let other = pair_seen c.other.inside in
    let result = c.are_same_queues-then-are_same_queues.result in
    let first = subst (λ (parts : List QueuePart). AreSameParts parts other.queues.a) c.deref.ensures.value
    (subst (λ (parts : List QueuePart). AreSameParts c.deref.result.now parts) c.deref-2.ensures.value (c.are_same_queues.ensures.0 c.if-are_same_queues.true)) in
    let second = subst (λ (parts : List QueuePart). IsTrue result ↔ AreSameParts parts other.queues.b) c.deref-then-are_same_queues.ensures.value
    (subst (λ (parts : List QueuePart). IsTrue result ↔ AreSameParts c.deref-then-are_same_queues.result.now parts) c.deref-then-are_same_queues-2.ensures.value c.are_same_queues-then-are_same_queues.ensures) in
    subst (λ (pair : PairState). IsTrue result ↔ HasSameQueues pair c.args.other.now) c.self.view_is
    (subst (λ (pair : PairState). IsTrue result ↔ HasSameQueues one pair) c.other.view_is (queues_test one other result (both_then _ _ result result first second refl)))

pub returns-else-are_same_queues : goal.returns-else-are_same_queues
returns-else-are_same_queues c =
    let one = pair_seen c.self.inside in
    let other = pair_seen c.other.inside in
    let result = c.are_same_queues.result in
    let first = subst (λ (parts : List QueuePart). IsTrue result ↔ AreSameParts parts other.queues.a) c.deref.ensures.value
    (subst (λ (parts : List QueuePart). IsTrue result ↔ AreSameParts c.deref.result.now parts) c.deref-2.ensures.value c.are_same_queues.ensures) in
    subst (λ (pair : PairState). IsTrue result ↔ HasSameQueues pair c.args.other.now) c.self.view_is
    (subst (λ (pair : PairState). IsTrue result ↔ HasSameQueues one pair) c.other.view_is (queues_test one other result (both_else _ _ result result first c.if-are_same_queues.false refl)))
