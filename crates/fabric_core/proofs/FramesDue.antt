-- The frame that the next copy on a queue delivers, by the queue's port and by the rule's answer.
use Rattle.std.proofs.Common.{◌≡◌, List, refl, true}
use Rattle.std.specs.Prelude.{IsSome}
use Rattle.step_kinds.specs.Answers.{is_made}
use Rattle.step_kinds.specs.declared.lanes.LaneCopy.{LaneCopy}
use Rattle.step_kinds.specs.declared.lanes.LaneCopy.TheVariants.{OutOfTurn, Part, Whole}
use Rattle.step_kinds.specs.declared.names.LaneName.{LaneName}
use Rattle.step_kinds.specs.declared.plan.Plan.{Plan}
use Rattle.step_kinds.specs.declared.steps.Answer.{Answer}
use Rattle.step_kinds.specs.declared.steps.Answer.TheVariants.{Delivered}
use Rattle.step_kinds.specs.declared.steps.Step.{Step}
use Rattle.step_kinds.specs.declared.steps.Step.TheVariants.{Copy}
use Rattle.pair_model.specs.DeclaredPlans.{IsQueueOf}
use Rattle.frame_ring.specs.Calls.{port_copy_answer, port_frame_due as due_at_port, frame_of_copy}
use Rattle.fabric_rule.specs.Answers.{of_copy}
use Rattle.fabric_rule.specs.Parts.{queue_of}
use Rattle.fabric_core.specs.Fabric.{FabricState, pair_of, plan_kept}
use Rattle.fabric_core.specs.FrameDue.{rule_answer, delivered_by, frame_due}
use Rattle.fabric_core.specs.LogClauses.{HasMade}
use Rattle.fabric_core.specs.Wants.{IsWantedAfter}
use Rattle.fabric_core.proofs.StepsOfFabrics.{rule_answers}

-- the answer of a copy delivers its frame
answer_delivers : (copy : LaneCopy) → frame_of_copy copy ≡ delivered_by (of_copy copy)
answer_delivers (Whole number frame) = refl
answer_delivers (Part number part) = refl
answer_delivers OutOfTurn = refl

-- and an answer with a frame is no refusal
frame_made : (answer : Answer) → IsSome (delivered_by answer) → is_made answer ≡ true
frame_made (Delivered number frame) some = refl
frame_made answer some = cc some

-- What is due at the port of a queue is what the rule's answer to the copy delivers.
pub due_is : (fabric : FabricState) (own : LaneName) →
    due_at_port (queue_of (pair_of fabric own.pair) own.from own.queue).queue.port (pair_of fabric own.pair).bridge ≡ frame_due fabric own
unfolding frame_due rule_answer
due_is fabric own = answer_delivers (port_copy_answer (queue_of (pair_of fabric own.pair) own.from own.queue).queue.port (pair_of fabric own.pair).bridge)

-- If a frame is due, the log of whatever steps a fabric has made doesn't refuse the copy.
pub due_wanted : (fabric : FabricState) (own : LaneName) → IsQueueOf (plan_kept fabric) own.pair own.from own.queue → IsSome (frame_due fabric own) →
    (plan : Plan) (steps : List Step) → HasMade plan steps fabric → IsWantedAfter plan steps fabric (Copy own.pair own.from own.queue)
unfolding frame_due
due_wanted fabric own may some plan steps made =
    let step : Step = Copy own.pair own.from own.queue in
    (rule_answer fabric step, rule_answers fabric step (pair_of fabric own.pair) may plan steps made, frame_made (rule_answer fabric step) some)
