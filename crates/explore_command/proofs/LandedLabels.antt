-- Which answers say that a write landed, and with which label.
use Rattle.std.proofs.Common.{◌≡◌, false, true, refl, sym, ap, ◌∙◌}
use Rattle.std.specs.Prelude.{◌≢◌}
use Rattle.std.proofs.lemmas.Bool.{false≢true}
use Rattle.step_kinds.specs.declared.steps.Answer.{Answer}
use Rattle.step_kinds.specs.declared.steps.Answer.TheVariants.{Landed}
use Rattle.step_kinds.specs.declared.steps.Label.{Label}
use Rattle.explore_model.specs.Schedules.{is_landed}

-- An answer that doesn't say `landed` is that of no landed label.
pub not_landed : (answer : Answer) → is_landed answer ≡ false → (label : Label) → answer ≢ Landed label
not_landed answer idle label same = false≢true (sym idle ∙ ap is_landed same)

-- An answer that says `landed` has a label.
pub label_of : (answer : Answer) → is_landed answer ≡ true → (label : Label) × (answer ≡ Landed label)
label_of (Landed label) is = (label, refl)
label_of answer is = absurd (false≢true is)
