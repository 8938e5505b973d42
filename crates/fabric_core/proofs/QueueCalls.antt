-- What comes of a call on a queue, from its parts.
use Rattle.std.proofs.Common.{◌≡◌, ◌∙◌, true, List, Result, Ok, Err, OnErr, refl, ap, sym}
use Rattle.step_kinds.specs.Answers.{is_made}
use Rattle.step_kinds.specs.declared.places.QueueStep.{QueueStep}
use Rattle.step_kinds.specs.declared.plan.DevPlan.{DevPlan}
use Rattle.step_kinds.specs.declared.steps.Answer.{Answer}
use Rattle.step_kinds.specs.declared.steps.Answer.TheVariants.{OkNumber, ReadyFrame}
use Rattle.bridge_pair.specs.Bridge.{Bridge}
use Rattle.frame_ring.specs.Port.{PortState}
use Rattle.frame_ring.specs.PortView.{HasPagesIn}
use Rattle.fabric_rule.specs.Parts.{QueuePart, plain_bridge}
use Rattle.fabric_core.specs.Parts.{KeepsPort}
use Rattle.fabric_core.specs.Fabric.{queue_wants_memory}
use Rattle.fabric_core.specs.QueueCalls.{HasTurned, HasTurnedUnlessWanting, IsBegun, IsFound}
use Rattle.fabric_core.specs.StepCalls.{HasMadeOnQueue}
use Rattle.fabric_core.specs.Wants.{MayWantOnQueue}
use Rattle.fabric_rule.specs.Turns.{QueueTurn, queue_turn}

-- A queue has taken a turn where answer, part and bridge are the turn's and its port keeps what was promised.
pub has_turned : (turn : QueueTurn) (answer : Answer) (old new : QueuePart) (before after : Bridge) → answer ≡ turn.answer → new ≡ turn.part → after ≡ turn.bridge
    → KeepsPort old.queue.port new.queue.port before after → HasTurned turn answer old new before after
has_turned turn answer old new before after says is bridge keeps = record { answer = says; after = is; bridge = bridge; keeps = keeps }

-- it took its turn
pub turn_taken : {E : Type 0} {MayWant : Answer → Type 0} (turn : QueueTurn) (answer : Answer) (old new : QueuePart) (before after : Bridge) → answer ≡ turn.answer → new ≡ turn.part
    → plain_bridge after ≡ plain_bridge before → KeepsPort old.queue.port new.queue.port before after → HasTurnedUnlessWanting {E = E} MayWant turn (Ok answer) old new before after
turn_taken turn answer old new before after says is plain keeps = record { answer = says; after = is; err = tt; wants = tt; plain = plain; keeps = keeps }

-- where nothing changes, what was promised is kept
pub keeps_same : (port : PortState) (bridge : Bridge) → HasPagesIn port bridge → KeepsPort port port bridge bridge
keeps_same port bridge ready =
    record {
      same_plan = refl;
      same_side = refl;
      same_queue = refl;
      plan = refl;
      pages = λ side page had. had;
      room = refl;
      peer_room = refl;
      ready = ready;
    }

-- a refusal that changes nothing
pub refused_turn : {E : Type 0} {MayWant : Answer → Type 0} (turn : QueueTurn) (answer : Answer) (part : QueuePart) (bridge : Bridge) → answer ≡ turn.answer → part ≡ turn.part
    → HasPagesIn part.queue.port bridge → HasTurnedUnlessWanting {E = E} MayWant turn (Ok answer) part part bridge bridge
refused_turn turn answer part bridge says stays ready = turn_taken turn answer part part bridge bridge says stays refl (keeps_same part.queue.port bridge ready)

-- a turn that is out of memory, before anything changed
pub unmade_turn : {E : Type 0} {MayWant : Answer → Type 0} (turn : QueueTurn) (error : E) (part : QueuePart) (bridge : Bridge) → MayWant turn.answer
    → HasPagesIn part.queue.port bridge → HasTurnedUnlessWanting {E = E} MayWant turn (Err error) part part bridge bridge
unmade_turn turn error part bridge wants ready = record { answer = tt; after = tt; err = refl; wants = wants; plain = refl; keeps = keeps_same part.queue.port bridge ready }

-- out of memory at fewer answers is out of memory at more
pub wants_more : {E : Type 0} {Few Many : Answer → Type 0} {turn : QueueTurn} {result : Result Answer E} {old new : QueuePart} {before after : Bridge} → ((answer : Answer) → Few answer → Many answer)
    → HasTurnedUnlessWanting Few turn result old new before after → HasTurnedUnlessWanting Many turn result old new before after
wants_more {turn = turn} {result = result} more has =
    record { answer = has.answer; after = has.after; err = has.err; wants = on_errs result (more turn.answer) has.wants; plain = has.plain; keeps = has.keeps } where
      on_errs : {X E P Q : Type 0} (result : Result X E) → (P → Q) → OnErr result P → OnErr result Q
      on_errs (Ok x) f p = tt
      on_errs (Err e) f p = f p

-- A step on a queue, by the turn that it takes

-- a begin that is answered with a number was made, and so was a link-down entry
pub begin_made : (answer : Answer) → IsBegun answer → is_made answer ≡ true
begin_made (OkNumber number) begun = refl
begin_made answer begun = absurd (cc begun)

-- and a look that found an entry
pub look_made : (answer : Answer) → IsFound answer → is_made answer ≡ true
look_made (ReadyFrame number len) found = refl
look_made answer found = absurd (cc found)

-- a step that is never out of memory takes its turn
pub takes_turn : {E : Type 0} (devs : List DevPlan) (step : QueueStep) (answer : Answer) (old new : QueuePart) (before after : Bridge) → HasTurned (queue_turn devs old before step) answer old new before after
    → HasMadeOnQueue {E = E} devs step old new before after (Ok answer)
takes_turn devs step answer old new before after has =
    record {
      answer = has.answer;
      after = has.after;
      bridge = ap plain_bridge has.bridge;
      err = tt;
      err_bridge = tt;
      keeps = has.keeps;
      wants = λ failed. absurd (cc failed);
      border = tt;
    }

-- a step that may be, and changes nothing but promises of the bridge
pub may_take_turn : {E : Type 0} (devs : List DevPlan) (step : QueueStep) (result : Result Answer E) (old new : QueuePart) (before after : Bridge) → queue_wants_memory step ≡ true
    → (queue_turn devs old before step).bridge ≡ before
    → HasTurnedUnlessWanting (MayWantOnQueue old.counters step) (queue_turn devs old before step) result old new before after → HasMadeOnQueue devs step old new before after result
may_take_turn devs step (Ok answer) old new before after may stays has =
    record {
      answer = has.answer;
      after = has.after;
      bridge = has.plain ∙ sym (ap plain_bridge stays);
      err = tt;
      err_bridge = tt;
      keeps = has.keeps;
      wants = λ failed. absurd (cc failed);
      border = tt;
    }
may_take_turn devs step (Err error) old new before after may stays has =
    record { answer = tt; after = tt; bridge = tt; err = has.err; err_bridge = has.plain; keeps = has.keeps; wants = λ failed. may; border = has.wants }
