-- What both commands answer that send a script's traffic: a text, and what comes with it.
use Rattle.std.specs.Prelude.{◌≡◌, Result, Ok, Err, Option, None, List, []}
use Rattle.command_reply.specs.Output.{Output, refused}
use Rattle.script_words.specs.declared.fault.ScriptFault.{ScriptFault}
use Rattle.step_kinds.specs.declared.plan.Plan.{Plan}
use Rattle.table_lane.specs.EndOfLane.{Shown}

-- what comes with the text of a command: the record of a threaded run, if it is that of one, and the proofs of its
-- sessions
pub record TrafficCarried (S : Type 0) : Type 0 where
  pub recorded : Option S
  pub proofs : List Shown

-- a text with which nothing comes
abbrev pub nothing_carried : {S : Type 0} → TrafficCarried S
nothing_carried = record { recorded = None; proofs = [] }

-- a script with a fault is refused, and nothing comes with the text
abbrev pub IsRefusal : {S : Type 0} → ScriptFault → Output → TrafficCarried S → Type 0
IsRefusal fault output carried = (output ≡ refused fault) × (carried ≡ nothing_carried)

-- the answer to a script, by what is so where it declares a plan
abbrev pub IsTrafficOf : {S : Type 0} → (Plan → Output → TrafficCarried S → Type 0) → Result Plan ScriptFault → Output → TrafficCarried S → Type 0
IsTrafficOf IsOfPlan (Ok plan) output carried = IsOfPlan plan output carried
IsTrafficOf IsOfPlan (Err fault) output carried = IsRefusal fault output carried
