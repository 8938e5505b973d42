-- Which answers are `landed`.
use Rattle.std.proofs.Common.{◌≡◌, ◌∙◌, true, ap, sym}
use Rattle.std.proofs.lemmas.Bool.{false≢true}
use Rattle.step_kinds.specs.declared.steps.Answer.{Answer}
use Rattle.step_kinds.specs.declared.steps.Answer.TheVariants.{Landed, Nothing}
use Rattle.step_kinds.specs.declared.steps.Label.{Label}
use Rattle.explore_model.specs.Schedules.{is_landed}

-- any other isn't
pub other_not_landed : (answer : Answer) → ((label : Label) → answer ≡ Landed label → ⊥) → is_landed answer ≡ true → ⊥
other_not_landed (Landed label) other landed = other label (λ i. Landed label)
other_not_landed answer other landed = false≢true landed

-- `nothing` isn't
pub nothing_not_landed : (answer : Answer) → answer ≡ Nothing → is_landed answer ≡ true → ⊥
nothing_not_landed answer is landed = false≢true (sym (ap is_landed is) ∙ landed)

-- `landed` is
pub landed_is_landed : (answer : Answer) (label : Label) → answer ≡ Landed label → is_landed answer ≡ true
landed_is_landed answer label is = ap is_landed is
