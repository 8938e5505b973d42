use Rattle.std.proofs.Common.{◌≡◌, ◌∙◌, List, ap, sym, subst}
use Rattle.bridge_pair.specs.Bridge.{Bridge}
use Rattle.fabric_rule.specs.Parts.{PairState, QueuePart}
use Rattle.fabric_core.specs.PairBoxes.{pair_seen}
use Rattle.fabric_core.specs.Parts.{IsPairWhole}
use Rattle.fabric_core.proofs.pairs.PairBox.copy_of.Goals as goal

-- a pair is whole that has the parts of one that is
whole_by_parts : (pair copy : PairState) → copy.bridge ≡ pair.bridge → copy.queues.a ≡ pair.queues.a → copy.queues.b ≡ pair.queues.b → IsPairWhole pair → IsPairWhole copy
whole_by_parts pair copy bridge a b is =
    let same : copy ≡ pair = ap (λ (bridge : Bridge). record { bridge = bridge; queues = copy.queues }) bridge
    ∙ ap (λ (a : List QueuePart). record { bridge = pair.bridge; queues = record { a = a; b = copy.queues.b } }) a
    ∙ ap (λ (b : List QueuePart). record { bridge = pair.bridge; queues = record { a = pair.queues.a; b = b } }) b in
    subst IsPairWhole (sym same) is

pub invariant_of-result : goal.invariant_of-result
invariant_of-result c =
    let copy : PairState = record { bridge = c.in_ok-copy_of.field-0; queues = record { a = c.in_ok-queue_copies.field-0.items; b = c.in_ok-queue_copies-2.field-0.items } } in
    whole_by_parts (pair_seen c.self.inside) copy c.in_ok-copy_of.ensures (c.in_ok-queue_copies.ensures ∙ c.deref.ensures.value) (c.in_ok-queue_copies-2.ensures ∙ c.deref-2.ensures.value) c.self.invariant
