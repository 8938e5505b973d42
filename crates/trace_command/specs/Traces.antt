-- What is true of the lines of a trace. Each landing names the write that landed, each number stands once, and each
-- blocked landing names an earlier write that stops it.
use Rattle.std.specs.Prelude.{◌≡◌, ℕ, ◌<◌, List, ◌∷◌, ◌++◌, Some, length, nat_lt, slice_get, if◌then◌else◌}
use Rattle.step_kinds.specs.declared.names.Side.{Side}
use Rattle.step_kinds.specs.declared.plan.Plan.{Plan}
use Rattle.step_kinds.specs.declared.steps.Answer.TheVariants.{Blocked, Landed}
use Rattle.step_kinds.specs.declared.steps.Label.{Label}
use Rattle.step_kinds.specs.declared.steps.Step.TheVariants.{Land}
use Rattle.ledger_model.specs.Log.{Answered, Memories}
use Rattle.pair_model.specs.Both.{at_side}
use Rattle.ledger_model.specs.NetworkLog.{on_bridges, switch_log}
use Rattle.step_kinds.specs.AnsweredSteps.{AnsweredStep}
use Rattle.trace_command.specs.Writes.{SideWrites, trace_number_at, numbers_in, pair_in, stopped_by}
use Rattle.trace_command.specs.Laws.{HaveTheirAnswers, IsStoppedBy, dropped_numbers, how_often, landed_numbers, posted_labels, trace_steps_of, traced_writes}

-- what the log has of bridges after the first lines of a trace
abbrev pub bridges_after : Plan → Memories → List AnsweredStep → List Answered
bridges_after plan memories before = on_bridges (switch_log plan memories (trace_steps_of before))

-- the writes of a side after them, as the trace follows them
abbrev pub traced_side : Plan → List AnsweredStep → ℕ → Side → SideWrites
traced_side plan before pair side = at_side (pair_in (traced_writes plan before) pair).sides side

-- The lines of a trace are true of a pair of its plan.
pub record IsTrueTrace (plan : Plan) (memories : Memories) (lines : List AnsweredStep) (pair : ℕ) (side : Side) : Type 0 where
  -- a landing names a number that was posted before, and that write has the label that landed
  pub landings : (before behind : List AnsweredStep) (line : AnsweredStep) (place : ℕ) (label : Label) → lines ≡ before ++ line ∷ behind →
      line.step ≡ Land pair side place → line.made.answer ≡ Landed label →
      slice_get (posted_labels plan (bridges_after plan memories before) pair side) (trace_number_at (traced_side plan before pair side).flight place) ≡ Some label
  -- after any lines, the number of each write that was posted stands once among those that landed, were dropped, and
  -- are in flight
  pub once : (before behind : List AnsweredStep) (n : ℕ) → lines ≡ before ++ behind →
      let log = bridges_after plan memories before in
      how_often n (landed_numbers plan log pair side ++ (dropped_numbers plan log pair side ++ numbers_in (traced_side plan before pair side).flight))
      ≡ (if nat_lt n (length (posted_labels plan log pair side)) then 1 else 0)
  -- a landing that is blocked names an earlier write which the one at its place may not pass
  pub waits : (before behind : List AnsweredStep) (line : AnsweredStep) (place : ℕ) → lines ≡ before ++ line ∷ behind →
      line.step ≡ Land pair side place → line.made.answer ≡ Blocked →
      IsStoppedBy plan (bridges_after plan memories before) pair side place (stopped_by (traced_side plan before pair side).flight place)

-- so it is of each pair, if the lines have the answers of the log
abbrev pub PairTracesAreTrue : Type 0
PairTracesAreTrue = (plan : Plan) (memories : Memories) (lines : List AnsweredStep) (pair : ℕ) (side : Side) → HaveTheirAnswers plan memories lines →
    pair < length plan.pairs → IsTrueTrace plan memories lines pair side
