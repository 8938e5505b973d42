-- The trace of a plan, read off the log of its steps.
use Rattle.std.specs.Prelude.{ℕ, List, ◌++◌}
use Rattle.step_kinds.specs.declared.plan.Plan.{Plan}
use Rattle.ledger_model.specs.PlanLog.{answered_steps, device_counts, lane_counts, log_of_plan}
use Rattle.step_kinds.specs.AnsweredSteps.{AnsweredStep}
use Rattle.trace_command.specs.Lines.{trace_ending, trace_step_line, step_lines}
use Rattle.trace_command.specs.Head.{trace_head}
use Rattle.trace_command.specs.Writes.{PairWrites, writes_after, writes_start}

-- The trace of a plan: its head, a line for each step, its lanes, its devices, and the end.
abbrev pub trace_text : Plan → List ℕ
trace_text plan =
    let log = log_of_plan plan in
    trace_head plan.pairs ++ step_lines plan (writes_start plan.pairs) (answered_steps plan.steps log) ++ trace_ending plan (lane_counts plan log) (device_counts plan log)

-- What is kept of a trace while its steps are made

-- the plan, the numbers of the writes so far, and the lines so far
pub record Traced : Type 0 where
  pub plan : Plan
  pub writes : List PairWrites
  pub text : List ℕ

abbrev pub trace_start : Plan → Traced
trace_start plan = record { plan = plan; writes = writes_start plan.pairs; text = trace_head plan.pairs }

-- one line more
abbrev pub with_line : Traced → AnsweredStep → Traced
with_line traced answered =
    record traced { writes = writes_after traced.plan.pairs traced.writes answered.step answered.made.answer; text = traced.text ++ trace_step_line traced.plan traced.writes answered.step answered.made }
