-- The result of a step for the part of a pair on which it is made: its contract, over the part before and after it.
use Rattle.std.specs.Prelude.{◌≡◌, true, List, IfOk, IsErr, OnErr, OnOk, Result}
use Rattle.step_kinds.specs.Places.{step_place}
use Rattle.step_kinds.specs.declared.places.QueueStep.{QueueStep}
use Rattle.step_kinds.specs.declared.places.StepPlace.{StepPlace}
use Rattle.step_kinds.specs.declared.plan.DevPlan.{DevPlan}
use Rattle.step_kinds.specs.declared.steps.Answer.{Answer}
use Rattle.step_kinds.specs.declared.steps.Step.{Step}
use Rattle.bridge_pair.specs.Bridge.{Bridge}
use Rattle.fabric_rule.specs.Moves.{move_at}
use Rattle.fabric_rule.specs.Parts.{PairState, QueuePart, plain_bridge, plain_pair}
use Rattle.fabric_rule.specs.Turns.{queue_turn}
use Rattle.fabric_core.specs.Fabric.{queue_wants_memory, wants_memory_at}
use Rattle.fabric_core.specs.Parts.{KeepsPort}
use Rattle.fabric_core.specs.Wants.{MayWantAt, MayWantOnQueue}

-- on one queue; `early` and `late` are the bridge as the step begins and ends
pub record HasMadeOnQueue {E : Type 0} (devs : List DevPlan) (step : QueueStep) (old new : QueuePart) (early late : Bridge) (result : Result Answer E) : Type 0 where
  -- the answer is that of the turn that the step takes
  pub answer : IfOk result (λ answer. answer ≡ (queue_turn devs old early step).answer)
  -- so is the queue after it
  pub after : OnOk result (new ≡ (queue_turn devs old early step).part)
  -- and the bridge, promises aside
  pub bridge : OnOk result (plain_bridge late ≡ plain_bridge (queue_turn devs old early step).bridge)
  -- where it is out of memory the queue is as it was
  pub err : OnErr result (new ≡ old)
  -- and the bridge, promises aside
  pub err_bridge : OnErr result (plain_bridge late ≡ plain_bridge early)
  -- all that was promised is kept
  pub keeps : KeepsPort old.queue.port new.queue.port early late
  -- out of memory comes of steps alone that may want memory
  pub wants : IsErr result → queue_wants_memory step ≡ true
  -- and only if the turn doesn't refuse them, or a refusal can't be counted
  pub border : OnErr result (MayWantOnQueue old.counters step (queue_turn devs old early step).answer)

-- on a pair at a place of it
pub record HasMadeAt {E : Type 0} (devs : List DevPlan) (place : StepPlace) (old new : PairState) (result : Result Answer E) : Type 0 where
  -- the answer is that of the step's move
  pub answer : IfOk result (λ answer. answer ≡ (move_at devs old place).answer)
  -- so is the pair after it, promises aside
  pub after : OnOk result (plain_pair new ≡ plain_pair (move_at devs old place).after)
  -- where it is out of memory the pair is as it was, promises aside
  pub err : OnErr result (plain_pair new ≡ plain_pair old)
  -- that comes of steps alone that may want memory
  pub wants : IsErr result → wants_memory_at place ≡ true
  -- and only if the move doesn't refuse them, or a refusal can't be counted
  pub border : OnErr result (MayWantAt old place (move_at devs old place).answer)

abbrev pub HasMadeStep : {E : Type 0} (devs : List DevPlan) (step : Step) (old new : PairState) (result : Result Answer E) → Type 0
HasMadeStep devs step old new result = HasMadeAt devs (step_place step) old new result
