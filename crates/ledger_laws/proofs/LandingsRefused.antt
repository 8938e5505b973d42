-- A landing that lands nothing is refused.
use Rattle.std.proofs.Common.{◌≡◌, ℕ, Bool, true, false, Option, Some, None, List, refl, ap, ◌∙◌}
use Rattle.std.specs.Prelude.{map, not, slice_get}
use Rattle.step_kinds.specs.declared.names.Side.{Side}
use Rattle.step_kinds.specs.declared.plan.PairPlan.{PairPlan}
use Rattle.step_kinds.specs.declared.plan.Plan.{Plan}
use Rattle.step_kinds.specs.declared.steps.Answer.{Answer}
use Rattle.step_kinds.specs.declared.steps.Answer.TheVariants.{Blocked, Landed}
use Rattle.step_kinds.specs.declared.steps.Label.{Label}
use Rattle.step_kinds.specs.declared.steps.Step.{Step}
use Rattle.step_kinds.specs.declared.steps.Step.TheVariants.{Land}
use Rattle.order_rules.specs.Order.{may_land}
use Rattle.pair_model.specs.Orders.{order_of}
use Rattle.pair_model.specs.Plans.{pair_plan}
use Rattle.ledger_model.specs.Ledger.{PairPart, side_of}
use Rattle.ledger_model.specs.Log.{Memories, ledger_of}
use Rattle.ledger_model.specs.Outcome.{decided, refuse_if}
use Rattle.ledger_model.specs.Receiving.{land_found, land_step, lands_on, taken_out}
use Rattle.ledger_laws.specs.Laws.{GoesOn}
use Rattle.step_kinds.specs.Answers.{is_made}
use Rattle.ledger_laws.proofs.LogGrowth.{answer_of}

refused_there : (plan : PairPlan) (pair : PairPart) (side : Side) (place : ℕ) (found : Option Label)
    → ((label : Label) → (land_found plan pair side place found).answer ≡ Landed label → ⊥) → is_made (land_found plan pair side place found).answer ≡ false
refused_there plan pair side place None other = refl
refused_there plan pair side place (Some label) other = by (may_land (map (order_of plan side) (side_of pair side).flight) place) other
  where
    after : PairPart
    after = lands_on (taken_out pair side place label) side label

    by : (may : Bool) → ((told : Label) → (decided pair (refuse_if (not may) Blocked None) (Landed label) after).answer ≡ Landed told → ⊥)
        → is_made (decided pair (refuse_if (not may) Blocked None) (Landed label) after).answer ≡ false
    by true other = absurd (other label refl)
    by false other = refl

-- A landing that is answered `landed` with no label is refused.
pub landing_refused : (plan : Plan) (memories : Memories) (steps : List Step) (pair : ℕ) (side : Side) (place : ℕ) (answer : Answer)
    → GoesOn plan memories steps (Land pair side place) answer → ((label : Label) → answer ≡ Landed label → ⊥) → is_made answer ≡ false
landing_refused plan memories steps pair side place answer goes other =
    let now : PairPart = ledger_of plan memories steps pair in
    let same : answer ≡ (land_step (pair_plan plan pair) now side place).answer = answer_of plan memories steps (Land pair side place) answer goes in
    ap is_made same ∙ refused_there (pair_plan plan pair) now side place (slice_get (side_of now side).flight place) (λ label told. other label (same ∙ told))
