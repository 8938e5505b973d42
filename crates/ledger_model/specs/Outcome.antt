-- The result of a step: an answer, and the pair after it. A step that is refused answers its first refusal.
use Rattle.std.specs.Prelude.{Bool, true, false, Option, Some, None}
use Rattle.step_kinds.specs.declared.steps.Answer.{Answer}
use Rattle.step_kinds.specs.declared.steps.Answer.TheVariants.{Nothing}
use Rattle.ledger_model.specs.Ledger.{PairPart}

pub record Outcome : Type 0 where
  pub answer : Answer
  pub after : PairPart

-- the refusal where its test holds, else what the later tests say
abbrev pub refuse_if : Bool → Answer → Option Answer → Option Answer
refuse_if true refusal later = Some refusal
refuse_if false refusal later = later

-- a refusal changes nothing
abbrev pub decided : PairPart → Option Answer → Answer → PairPart → Outcome
decided old None answer new = record { answer = answer; after = new }
decided old (Some refusal) answer new = record { answer = refusal; after = old }

-- A switch's step is none of a pair's: it changes nothing here. What a switch answers is said of switches, and no plan
-- permits such a step on its bridges.
abbrev pub not_here : PairPart → Outcome
not_here pair = record { answer = Nothing; after = pair }
