-- Steps that were made.
use Rattle.step_kinds.specs.declared.plan.LineAnswer.{LineAnswer}
use Rattle.step_kinds.specs.declared.steps.Step.{Step}

-- a step that was made, with its line and its answer
pub record AnsweredStep : Type 0 where
  pub step : Step
  pub made : LineAnswer
