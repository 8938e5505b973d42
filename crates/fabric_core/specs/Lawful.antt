-- What always holds of the steps that a fabric represents, and of the answer to one step more: the laws of
-- `ledger_laws`, if memories show what was stored.
use Rattle.std.specs.Prelude.{List}
use Rattle.step_kinds.specs.declared.plan.Plan.{Plan}
use Rattle.step_kinds.specs.declared.steps.Answer.{Answer}
use Rattle.step_kinds.specs.declared.steps.Step.{Step}
use Rattle.ledger_laws.specs.Together.{HoldsLaws, IsRightAnswer}
use Rattle.ledger_model.specs.Memory.{memory_of}

abbrev pub IsLawful : Plan → List Step → Type 0
IsLawful plan steps = HoldsLaws plan (memory_of plan) steps

-- after these steps the answer says what the log of them says, and no more
abbrev pub IsRight : Plan → List Step → Step → Answer → Type 0
IsRight plan steps step answer = IsRightAnswer plan (memory_of plan) steps step answer
