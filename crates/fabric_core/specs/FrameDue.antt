-- The frame that the next copy on a queue delivers, by the fabric as it is.
use Rattle.std.specs.Prelude.{ℕ, List, None, Option, Some}
use Rattle.step_kinds.specs.Subject.{subject_of}
use Rattle.step_kinds.specs.declared.names.LaneName.{LaneName}
use Rattle.step_kinds.specs.declared.steps.Answer.{Answer}
use Rattle.step_kinds.specs.declared.steps.Answer.TheVariants.{Delivered}
use Rattle.step_kinds.specs.declared.steps.Step.{Step}
use Rattle.step_kinds.specs.declared.steps.Step.TheVariants.{Copy}
use Rattle.fabric_rule.specs.Moves.{move_of}
use Rattle.fabric_core.specs.Fabric.{FabricState, pair_of}

-- what the rule answers to a step, by the pair that it is made on
unfoldable pub rule_answer : FabricState → Step → Answer
rule_answer fabric step = (move_of fabric.devs (pair_of fabric (subject_of step)) step).answer

-- the frame that an answer delivers, if it delivers one
abbrev pub delivered_by : Answer → Option (List ℕ)
delivered_by (Delivered number frame) = Some frame
delivered_by answer = None

-- a side and a queue are named as the lane on which the side sends there
unfoldable pub frame_due : FabricState → LaneName → Option (List ℕ)
frame_due fabric own = delivered_by (rule_answer fabric (Copy own.pair own.from own.queue))
