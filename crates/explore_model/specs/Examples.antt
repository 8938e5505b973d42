-- Worked examples: a script that begins a frame, posts its first write, and shows what is in flight. The write may have
-- landed before it is shown, or not.
use Rattle.std.specs.Prelude.{◌≡◌, false, List, [], ◌∷◌, ◌++◌, codes}
use Rattle.std.specs.declared.cmp.Ordering.TheVariants.{Less}
use Rattle.step_kinds.specs.declared.names.Side.TheVariants.{A}
use Rattle.step_kinds.specs.declared.plan.Plan.{Plan}
use Rattle.step_kinds.specs.declared.steps.Step.{Step}
use Rattle.step_kinds.specs.declared.steps.Step.TheVariants.{Begin, Post, ShowQueue}
use Rattle.ledger_model.specs.Examples.{letter, small_pair}
use Rattle.report_text.specs.Report.{line_of}
use Rattle.explore_model.specs.Outcomes.{IsOutcome, answers_cmp}
use Rattle.ledger_model.specs.Memory.{memory_of}
use Rattle.ledger_model.specs.NetworkLog.{answer_after}
use Rattle.explore_model.specs.Schedules.{is_landed, landing_step}
use Rattle.explore_model.specs.Texts.{explored_text, landing_line}
use Rattle.explore_model.specs.declared.outcome.Landing.{Landing}
use Rattle.explore_model.specs.declared.outcome.Outcome.{Outcome}

-- the steps
abbrev pub script : List Step
script = Begin 0 A 0 letter ∷ Post 0 A 0 ∷ ShowQueue 0 A 0 ∷ []

-- the first two steps are of line 7, the last is of line 8
abbrev pub plan : Plan
plan =
    record {
      pairs = small_pair ∷ [];
      devs = [];
      switches = [];
      steps =
          record { line = 7; step = Begin 0 A 0 letter } ∷ record { line = 7; step = Post 0 A 0 }
          ∷ record { line = 8; step = ShowQueue 0 A 0 } ∷ [];
      traffic = [];
    }

-- the write lands before the last step
abbrev pub landing : Landing
landing = record { at = 2; pair = 0; side = A; place = 0 }

abbrev pub landed : Outcome
landed = record { answers = codes "ok 0" ∷ codes "posted chunk 0 0 0" ∷ codes "queue 0 -" ∷ []; landings = landing ∷ [] }

-- it is in flight
abbrev pub in_flight : Outcome
in_flight = record { answers = codes "ok 0" ∷ codes "posted chunk 0 0 0" ∷ codes "queue 1 chunk 0 0 0" ∷ []; landings = [] }

-- both are outcomes of schedules, in their order
pub record BothAreOutcomes : Type 0 where
  pub landed_first : IsOutcome plan script landed
  pub in_flight_then : IsOutcome plan script in_flight
  pub order : answers_cmp landed.answers in_flight.answers ≡ Less

-- the landing isn't answered `landed` before the write is posted, nor a second time
pub record NoOtherLands : Type 0 where
  pub early : is_landed (answer_after plan (memory_of plan) (Begin 0 A 0 letter ∷ []) (landing_step landing)) ≡ false
  pub late : is_landed (answer_after plan (memory_of plan) (Begin 0 A 0 letter ∷ Post 0 A 0 ∷ landing_step landing ∷ []) (landing_step landing)) ≡ false

-- one state before the first step and one before the second; two before the third, as the write has landed or not
abbrev pub Shown : Type 0
Shown =
    explored_text plan (landed ∷ in_flight ∷ []) 4
    ≡ line_of (codes "outcomes 2 states 4") ++ line_of (codes "outcome 1") ++ line_of (codes "by 8 1 land p A 0") ++ line_of (codes "8 queue 0 -")
    ++ line_of (codes "outcome 2") ++ line_of (codes "8 queue 1 chunk 0 0 0") ++ line_of (codes "always 7 ok 0")
    ++ line_of (codes "always 7 posted chunk 0 0 0") ++ line_of (codes "end")

-- a landing before the second of a line's steps
abbrev pub ShownEarlier : Type 0
ShownEarlier = landing_line plan (record landing { at = 1 }) ≡ line_of (codes "by 7 2 land p A 0")

abbrev pub ExamplesHold : Type 0
ExamplesHold = BothAreOutcomes × NoOtherLands × Shown × ShownEarlier
