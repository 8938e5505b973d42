-- Laws of scripts.
use Rattle.std.specs.Prelude.{◌≡◌, ℕ, ◌-◌, ◌≤◌, ◌==◌, List, Ok, Err, length, take, count_by, slice_index}
use Rattle.step_kinds.specs.declared.plan.Plan.{Plan}
use Rattle.pair_model.specs.TrafficPlans.{IsWhole}
use Rattle.script_words.specs.declared.fault.ScriptFault.{ScriptFault}
use Rattle.script_text.specs.Script.{script_of}

-- every plan of a script is whole: its pairs, devices, switches, steps and traffic are as a script can declare them
abbrev pub EachPlanIsWhole : Type 0
EachPlanIsWhole = (bytes : List ℕ) (plan : Plan) → script_of bytes ≡ Ok plan → IsWhole plan

-- the line with this number ends with the line feed before this place
pub record LineEndsAt (bytes : List ℕ) (line end : ℕ) : Type 0 where
  pub some : 1 ≤ end
  pub within : end ≤ length bytes
  pub line_feed : slice_index bytes (end - 1) ≡ 10
  -- each line before it has a line feed too
  pub counted : count_by (λ b. b == 10) (take end bytes) ≡ line

-- the first fault of the script is in the line that ends before this place
pub record FaultEndsAt (bytes : List ℕ) (end : ℕ) : Type 0 where
  pub fault : ScriptFault
  pub is_fault : script_of bytes ≡ Err fault
  pub line : LineEndsAt bytes fault.line end
