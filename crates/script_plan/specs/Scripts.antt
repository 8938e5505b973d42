-- The plan that a script declares.
use Rattle.step_kinds.specs.declared.plan.Plan.{Plan}
use Rattle.script_plan.specs.declared.script.Script.{Script}

-- the plan of a script, in which each step stands by itself
abbrev pub plan_in : Script → Plan
plan_in script = record script.declared { steps = script.steps }
