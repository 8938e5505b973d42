-- The contract of a step of a fabric, over the fabric before and after it.
use Rattle.std.specs.Prelude.{◌≡◌, false, true, List, [], ◌∷◌, ◌++◌, IfOk, IsErr, OnErr, OnOk, Result}
use Rattle.step_kinds.specs.declared.plan.Plan.{Plan}
use Rattle.step_kinds.specs.declared.steps.Answer.{Answer}
use Rattle.step_kinds.specs.declared.steps.Step.{Step}
use Rattle.step_kinds.specs.Answers.{is_made}
use Rattle.fabric_core.specs.Fabric.{FabricState, may_want_memory, plain, plan_kept}
use Rattle.fabric_core.specs.FrameDue.{rule_answer}
use Rattle.fabric_core.specs.Lawful.{IsLawful, IsRight}
use Rattle.fabric_core.specs.LogClauses.{HasMade, IsAnswered, IsLikely}
use Rattle.fabric_core.specs.Refusals.{refused_in}
use Rattle.fabric_core.specs.Wants.{IsWantedAfter}

-- whatever steps of a plan it represented before
pub record HasStepped {E : Type 0} (old new : FabricState) (step : Step) (result : Result Answer E) : Type 0 where
  -- the answer is the log's of those steps and this one
  pub answered : (plan : Plan) (steps : List Step) → HasMade plan steps old → IfOk result (λ answer. IsAnswered plan steps step answer × IsLikely plan step answer)
  -- it is the rule's, by the pair as it is
  pub told : IfOk result (λ answer. answer ≡ rule_answer old step)
  -- so it says what the log of those steps says: refusals come exactly there, and a side comes up where all numbers
  -- landed and agree
  pub right : (plan : Plan) (steps : List Step) → HasMade plan steps old → IfOk result (IsRight plan steps step)
  -- then it represents them and this one, and the laws of a log hold of those
  pub stands : (plan : Plan) (steps : List Step) → HasMade plan steps old → OnOk result (HasMade plan (steps ++ step ∷ []) new)
  pub lawful : (plan : Plan) (steps : List Step) → HasMade plan steps old → OnOk result (IsLawful plan (steps ++ step ∷ []))
  -- a step that is refused leaves all as it was, promises aside, but for a device's count of refusals and what an idle
  -- port lets go
  pub refused : IfOk result (λ answer. is_made answer ≡ false → plain new ≡ plain (refused_in old step))
  -- where it is out of memory it represents the same steps, and nothing but promises of room and pages changed
  pub still_stands : (plan : Plan) (steps : List Step) → HasMade plan steps old → OnErr result (HasMade plan steps new)
  pub err : OnErr result (plain new ≡ plain old)
  -- of the steps that promise room or pages, or show memory, alone
  pub wants : IsErr result → may_want_memory step ≡ true
  -- and only if the log of those steps answers it with no refusal, or where a device has as many refusals as it can
  -- count
  pub border : (plan : Plan) (steps : List Step) → HasMade plan steps old → OnErr result (IsWantedAfter plan steps old step)
  -- its pairs and devices stay
  pub plan : plan_kept new ≡ plan_kept old
