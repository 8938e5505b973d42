-- What a machine may make: the steps of a plan that it was made for, and landings of the plan's pairs.
use Rattle.std.proofs.Common.{◌≡◌, List, [], inl, subst, sym}
use Rattle.std.specs.List.{All}
use Rattle.std.proofs.lemmas.List.Elements.{All-weaker}
use Rattle.pair_model.specs.PlanParts.{declared_part}
use Rattle.step_kinds.specs.declared.plan.Line.{Line}
use Rattle.step_kinds.specs.declared.plan.Plan.{Plan}
use Rattle.pair_model.specs.Switches.{IsMakeable}
use Rattle.pair_model.proofs.Facade.{makeable_by_other}
use Rattle.explore_model.specs.Schedules.{IsLanding, landing_step}
use Rattle.explore_model.specs.declared.outcome.Landing.{Landing}

-- the steps of the plan
pub lines_makeable : (plan kept : Plan) (lines : List Line) → kept ≡ declared_part plan → lines ≡ plan.steps → All (λ line. IsMakeable plan line.step) plan.steps →
    All (λ line. IsMakeable kept line.step) lines
lines_makeable plan kept lines same is all =
    subst (λ (lines : List Line). All (λ line. IsMakeable kept line.step) lines) (sym is)
    (subst (λ (kept : Plan). All (λ line. IsMakeable kept line.step) plan.steps) (sym same)
    (All-weaker (λ (line : Line). IsMakeable plan line.step) (λ line. IsMakeable (declared_part plan) line.step) (λ line may. makeable_by_other plan [] [] line.step may) plan.steps all))

-- a landing
pub landing_makeable : (plan kept : Plan) (landing : Landing) → kept ≡ declared_part plan → IsLanding plan landing → IsMakeable kept (landing_step landing)
landing_makeable plan kept landing same may =
    subst (λ (kept : Plan). IsMakeable kept (landing_step landing)) (sym same) (inl may.pair)
