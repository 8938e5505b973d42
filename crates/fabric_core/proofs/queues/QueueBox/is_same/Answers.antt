use Rattle.std.proofs.Common.{◌≡◌, ◌↔◌, ◌∙◌, Bool, IsTrue, ap, refl, subst}
use Rattle.std.proofs.Math.Bool.{beq}
use Rattle.fabric_rule.specs.Parts.{QueuePart}
use Rattle.fabric_core.specs.QueueBoxes.{part_seen}
use Rattle.fabric_core.specs.Same.{AreSameCounts, IsSamePart}
use Rattle.queue_pair.specs.Same.{IsSameQueue}
use Rattle.fabric_core.proofs.SameParts.{all_same, both_else, both_then, counters_test, stopped_test}
use Rattle.fabric_core.proofs.queues.QueueBox.is_same.Goals as goal
use Rattle.fabric_core.proofs.queues.QueueBox.is_same.Goals.{then-is_same, else-is_same, then-stopped, else-stopped, then-eq, else-eq}

pub returns-then-is_same-2 : goal.returns-then-is_same-2
returns-then-is_same-2 c =
    let one = part_seen c.self.inside in
    let other = part_seen c.other.inside in
    let stopped : IsTrue c.if-is_same.value ↔ (IsSameQueue one.queue other.queue × (one.flow.stopped ≡ other.flow.stopped)) = elim c.if-is_same.branch [
      | then-is_same w ↦ both_then _ _ c.if-is_same.value (beq one.flow.stopped other.flow.stopped) (c.is_same.ensures.0 w.if-is_same.true) (stopped_test one.flow.stopped other.flow.stopped)
          (w.value-is ∙ ap (λ (test : Bool). beq test w.stopped-then-is_same.result) w.stopped.ensures ∙ ap (λ (test : Bool). beq one.flow.stopped test) w.stopped-then-is_same.ensures)
      | else-is_same w ↦ both_else _ _ c.if-is_same.value c.is_same.result c.is_same.ensures w.if-is_same.false w.value-is
    ] in
    let counters : IsTrue c.if-stopped.value ↔ ((IsSameQueue one.queue other.queue × (one.flow.stopped ≡ other.flow.stopped)) × (one.counters ≡ other.counters)) = elim c.if-stopped.branch [
      | then-stopped w ↦ both_then _ _ c.if-stopped.value _ (stopped.0 w.if-stopped.true) (counters_test one.counters other.counters) (w.value-is ∙ w.eq.ensures)
      | else-stopped w ↦ both_else _ _ c.if-stopped.value c.if-is_same.value stopped w.if-stopped.false w.value-is
    ] in
    let accepted : IsTrue c.if-eq.value ↔ (((IsSameQueue one.queue other.queue × (one.flow.stopped ≡ other.flow.stopped)) × (one.counters ≡ other.counters)) × AreSameCounts one.accepted other.accepted) = elim c.if-eq.branch [
      | then-eq w ↦ both_then _ _ c.if-eq.value w.is_same-then-eq.result (counters.0 w.if-eq.true) w.is_same-then-eq.ensures w.value-is
      | else-eq w ↦ both_else _ _ c.if-eq.value c.if-stopped.value counters w.if-eq.false w.value-is
    ] in
    let all = all_same one other c.is_same-then-is_same-2.result (both_then _ _ c.is_same-then-is_same-2.result c.is_same-then-is_same-2.result (accepted.0 c.if-is_same-2.true) c.is_same-then-is_same-2.ensures refl) in
    subst (λ (part : QueuePart). IsTrue c.is_same-then-is_same-2.result ↔ IsSamePart part c.args.other.now) c.self.view_is
    (subst (λ (part : QueuePart). IsTrue c.is_same-then-is_same-2.result ↔ IsSamePart one part) c.other.view_is all)

pub returns-else-is_same-2 : goal.returns-else-is_same-2
returns-else-is_same-2 c =
    let one = part_seen c.self.inside in
    let other = part_seen c.other.inside in
    let stopped : IsTrue c.if-is_same.value ↔ (IsSameQueue one.queue other.queue × (one.flow.stopped ≡ other.flow.stopped)) = elim c.if-is_same.branch [
      | then-is_same w ↦ both_then _ _ c.if-is_same.value (beq one.flow.stopped other.flow.stopped) (c.is_same.ensures.0 w.if-is_same.true) (stopped_test one.flow.stopped other.flow.stopped)
          (w.value-is ∙ ap (λ (test : Bool). beq test w.stopped-then-is_same.result) w.stopped.ensures ∙ ap (λ (test : Bool). beq one.flow.stopped test) w.stopped-then-is_same.ensures)
      | else-is_same w ↦ both_else _ _ c.if-is_same.value c.is_same.result c.is_same.ensures w.if-is_same.false w.value-is
    ] in
    let counters : IsTrue c.if-stopped.value ↔ ((IsSameQueue one.queue other.queue × (one.flow.stopped ≡ other.flow.stopped)) × (one.counters ≡ other.counters)) = elim c.if-stopped.branch [
      | then-stopped w ↦ both_then _ _ c.if-stopped.value _ (stopped.0 w.if-stopped.true) (counters_test one.counters other.counters) (w.value-is ∙ w.eq.ensures)
      | else-stopped w ↦ both_else _ _ c.if-stopped.value c.if-is_same.value stopped w.if-stopped.false w.value-is
    ] in
    let accepted : IsTrue c.if-eq.value ↔ (((IsSameQueue one.queue other.queue × (one.flow.stopped ≡ other.flow.stopped)) × (one.counters ≡ other.counters)) × AreSameCounts one.accepted other.accepted) = elim c.if-eq.branch [
      | then-eq w ↦ both_then _ _ c.if-eq.value w.is_same-then-eq.result (counters.0 w.if-eq.true) w.is_same-then-eq.ensures w.value-is
      | else-eq w ↦ both_else _ _ c.if-eq.value c.if-stopped.value counters w.if-eq.false w.value-is
    ] in
    let all = all_same one other c.if-eq.value (both_else _ _ c.if-eq.value c.if-eq.value accepted c.if-is_same-2.false refl) in
    subst (λ (part : QueuePart). IsTrue c.if-eq.value ↔ IsSamePart part c.args.other.now) c.self.view_is
    (subst (λ (part : QueuePart). IsTrue c.if-eq.value ↔ IsSamePart one part) c.other.view_is all)
