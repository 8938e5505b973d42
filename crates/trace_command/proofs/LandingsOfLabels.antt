-- A landing names the number of a write that was posted before, and that write has the label that landed.
use Rattle.std.proofs.Common.{◌≡◌, ℕ, zero, suc, Some, List, [], ◌∷◌, map, refl, sym, subst, ◌∙◌}
use Rattle.std.specs.Prelude.{slice_get}
use Rattle.std.proofs.lemmas.Bool.{eq-eqb}
use Rattle.step_kinds.specs.declared.steps.Answer.TheVariants.{Landed}
use Rattle.step_kinds.specs.declared.steps.Label.{Label}
use Rattle.step_kinds.specs.declared.steps.Step.TheVariants.{Land}
use Rattle.ledger_model.specs.Log.{log_of}
use Rattle.ledger_laws.proofs.Facade.{answer_of, same_side-refl}
use Rattle.trace_command.specs.Writes.{trace_number_at}
use Rattle.trace_command.specs.declared.writes.FlyingWrite.{FlyingWrite}
use Rattle.trace_command.specs.Laws.{LandingsAreOfTheirLabels, flying_labels, side_writes}
use Rattle.trace_command.proofs.AnswersFit.{LandsThere}
use Rattle.trace_command.proofs.LogsInStep.{all_after, next_lands, run_in_step}

-- the number of a write stands at the place of its label
label_at : (labels : List Label) (writes : List FlyingWrite) (flight : List Label) (place : ℕ) (label : Label)
    → map (λ (w : FlyingWrite). slice_get labels w.number) writes ≡ map Some flight → slice_get flight place ≡ Some label → slice_get labels (trace_number_at writes place) ≡ Some label
label_at labels [] [] place label e at = absurd (cc)
label_at labels [] (x ∷ flight) place label e at = absurd (cc)
label_at labels (w ∷ writes) [] place label e at = absurd (cc)
label_at labels (w ∷ writes) (x ∷ flight) zero label e at =
    let first : slice_get labels w.number ≡ Some x = cc in
    first ∙ at
label_at labels (w ∷ writes) (x ∷ flight) (suc place) label e at =
    let rest : map (λ (w : FlyingWrite). slice_get labels w.number) writes ≡ map Some flight = cc in
    label_at labels writes flight place label rest at

-- the number of a landing is the place of its label among those posted
pub landings_are_of_their_labels : LandingsAreOfTheirLabels
landings_are_of_their_labels plan memories steps pair side place label goes =
    label_at (all_after plan pair side (log_of plan memories steps)).flight (side_writes plan (log_of plan memories steps) pair side).flight
    (flying_labels plan (log_of plan memories steps) pair side) place label (run_in_step plan pair side memories steps).in_step.own.numbers at
  where
    at : slice_get (flying_labels plan (log_of plan memories steps) pair side) place ≡ Some label
    at =
        subst (λ answer. LandsThere pair side (flying_labels plan (log_of plan memories steps) pair side) (record { step = Land pair side place; answer = answer }))
        (sym (answer_of plan memories steps (Land pair side place) (Landed label) goes))
        (next_lands plan pair side memories steps (Land pair side place)) (eq-eqb pair pair refl) (same_side-refl side)
