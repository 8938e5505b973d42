-- The schedules of a script: its steps in their order, and before each any number of further landings.
use Rattle.std.specs.Prelude.{◌≡◌, ℕ, ◌^◌, ◌<◌, Bool, true, false, List, [], ◌∷◌, ◌++◌, length}
use Rattle.step_kinds.specs.declared.plan.Plan.{Plan}
use Rattle.step_kinds.specs.declared.steps.Answer.{Answer}
use Rattle.step_kinds.specs.declared.steps.Answer.TheVariants.{Landed}
use Rattle.step_kinds.specs.declared.steps.Step.{Step}
use Rattle.step_kinds.specs.declared.steps.Step.TheVariants.{Land}
use Rattle.pair_model.specs.DeclaredPlans.{IsPairOf}
use Rattle.ledger_model.specs.Memory.{memory_of}
use Rattle.ledger_model.specs.NetworkLog.{answer_after}
use Rattle.report_text.specs.Texts.{answer_text}
use Rattle.explore_model.specs.declared.outcome.Landing.{Landing}

-- the text of what a step of a plan is answered after these steps, if memories show what was stored
abbrev pub text_after : Plan → List Step → Step → List ℕ
text_after plan steps step = answer_text (answer_after plan (memory_of plan) steps step)

-- whether a landing was answered `landed`
abbrev pub is_landed : Answer → Bool
is_landed (Landed label) = true
is_landed answer = false

-- a landing is made as this step
abbrev pub landing_step : Landing → Step
landing_step landing = Land landing.pair landing.side landing.place

-- a landing that a script of the plan could ask for: places are numbers of 32 bits
pub record IsLanding (plan : Plan) (landing : Landing) : Type 0 where
  pub pair : IsPairOf plan landing.pair
  pub place : landing.place < 2 ^ 32

-- A run of a script: its steps were made in their order, and before them further landings, each of which was answered
-- `landed`. It has made these steps in all, and the answers to the script's own steps have these texts.
pub data Runs (plan : Plan) : (script : List Step) (landings : List Landing) (made : List Step) (answers : List (List ℕ)) → Type 0 where
  -- nothing was made
  begun : Runs plan [] [] [] []
  -- a further landing
  lands : {script : List Step} {landings : List Landing} {made : List Step} {answers : List (List ℕ)} (landing : Landing) →
      Runs plan script landings made answers → landing.at ≡ length script → IsLanding plan landing →
      is_landed (answer_after plan (memory_of plan) made (landing_step landing)) ≡ true →
      Runs plan script (landings ++ landing ∷ []) (made ++ landing_step landing ∷ []) answers
  -- the next step of the script
  goes_on : {script : List Step} {landings : List Landing} {made : List Step} {answers : List (List ℕ)} (step : Step) →
      Runs plan script landings made answers →
      Runs plan (script ++ step ∷ []) landings (made ++ step ∷ []) (answers ++ text_after plan made step ∷ [])
