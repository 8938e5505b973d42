-- What `trace` answers, and what is true of it.
use Rattle.std.specs.Prelude.{◌≡◌, ℕ, ◌<◌, Result, Ok, Err, List, length}
use Rattle.command_reply.specs.Output.{Output, reply_done, refused}
use Rattle.command_reply.specs.Statuses.{number_of}
use Rattle.command_reply.specs.declared.status.Status.TheVariants.{Done}
use Rattle.ledger_model.specs.Memory.{memory_of}
use Rattle.ledger_model.specs.PlanLog.{answered_steps, log_of_plan}
use Rattle.script_text.specs.Script.{script_of}
use Rattle.script_words.specs.declared.fault.ScriptFault.{ScriptFault}
use Rattle.step_kinds.specs.declared.names.Side.{Side}
use Rattle.step_kinds.specs.declared.plan.Plan.{Plan}
use Rattle.trace_command.specs.Traces.{IsTrueTrace}
use Rattle.trace_command.specs.Trace.{trace_text}

-- the trace of the plan that a script declares, or the script's fault
abbrev pub traced : Result Plan ScriptFault → Output
traced (Ok plan) = reply_done (trace_text plan)
traced (Err fault) = refused fault

-- the lines of a plan's trace are true of each side of each pair
abbrev pub HasTrueTrace : Plan → Type 0
HasTrueTrace plan = (pair : ℕ) (side : Side) → pair < length plan.pairs →
    IsTrueTrace plan (memory_of plan) (answered_steps plan.steps (log_of_plan plan)) pair side

-- the answer of `trace` to the bytes of a script
pub record IsTraceOf (bytes : List ℕ) (output : Output) : Type 0 where
  pub answer : output ≡ traced (script_of bytes)
  -- where it is done, the bytes declare a plan, and that plan's trace is true
  pub headline : output.status ≡ number_of Done → (plan : Plan) × (script_of bytes ≡ Ok plan) × HasTrueTrace plan
