use Rattle.std.proofs.Common.{◌≡◌, ◌⊎◌, inl, inr, List, [], ◌∷◌, ◌++◌, length, refl, sym, ap, ◌∙◌, arith}
use Rattle.std.proofs.lemmas.List.{append-nil}
use Rattle.step_kinds.specs.declared.plan.Counters.{Counters}
use Rattle.step_kinds.specs.declared.plan.DevPlan.{DevPlan}
use Rattle.trace_command.specs.Lines.{trace_device_lines}
use Rattle.trace_command.proofs.ending.push_devices.Goals as goal

no_lines : (devs : List DevPlan) (counters : List Counters) → (length devs ≡ 0) ⊎ (length counters ≡ 0) → trace_device_lines devs counters ≡ []
no_lines [] counters none = refl
no_lines (dev ∷ devs) [] none = refl
no_lines (dev ∷ devs) (counts ∷ counters) (inl none) = absurd (omega arith)
no_lines (dev ∷ devs) (counts ∷ counters) (inr none) = absurd (omega arith)

pub returns : goal.returns
returns c =
    let left = c.loop-dev.dev-iterator in
    let text = c.loop-dev.text.items in
    let none = no_lines left.a.rest.now left.b.rest.now (elim c.in-None.ensures.steps [ inl devs ↦ inl devs.1.0 | inr counters ↦ inr counters.1.0 ]) in
    sym (append-nil text) ∙ ap (λ lines. text ++ lines) (sym none) ∙ c.loop-dev.invariant
