use Rattle.std.proofs.Common.{Ok, refl}
use Rattle.std.specs.declared.alloc.AllocError.{AllocError}
use Rattle.step_kinds.specs.declared.places.StepPlace.TheVariants.{OnBridge, OnQueue, OnSwitch}
use Rattle.step_kinds.specs.declared.steps.Answer.TheVariants.{Ok as Done}
use Rattle.fabric_core.specs.StepCalls.{HasMadeAt}
use Rattle.fabric_core.proofs.StepsByPlace.{made_by_place, needed_there}
use Rattle.fabric_core.proofs.pairs.PairBox.make.Goals as goal

pub queue_step-requires-clause-among : goal.queue_step-requires-clause-among
queue_step-requires-clause-among c =
    (needed_there c.args.devs.now c.args.self.now.bridge c.args.step.now (OnQueue c.in-OnQueue.side c.in-OnQueue.queue c.in-OnQueue.step) c.in-OnQueue.ensures c.requires.can).0

pub queue_step-requires-clause-can : goal.queue_step-requires-clause-can
queue_step-requires-clause-can c =
    (needed_there c.args.devs.now c.args.self.now.bridge c.args.step.now (OnQueue c.in-OnQueue.side c.in-OnQueue.queue c.in-OnQueue.step) c.in-OnQueue.ensures c.requires.can).1

pub step_aside-requires : goal.step_aside-requires
step_aside-requires c = needed_there c.args.devs.now c.args.self.now.bridge c.args.step.now (OnBridge c.in-OnBridge.step) c.in-OnBridge.ensures c.requires.can

pub returns-in-OnSwitch : goal.returns-in-OnSwitch
returns-in-OnSwitch c =
    let pair = c.args.self.now in
    let made : HasMadeAt {E = AllocError} c.args.devs.now (OnSwitch c.in-OnSwitch.step) pair pair (Ok Done) = record { answer = refl; after = refl; err = tt; wants = λ failed. absurd (cc failed); border = tt } in
    made_by_place (Ok Done) c.args.devs.now pair pair c.args.step.now (OnSwitch c.in-OnSwitch.step) c.in-OnSwitch.ensures made

pub returns-in-OnQueue : goal.returns-in-OnQueue
returns-in-OnQueue c =
    made_by_place c.queue_step.result c.args.devs.now c.args.self.now c.queue_step.new.self c.args.step.now (OnQueue c.in-OnQueue.side c.in-OnQueue.queue c.in-OnQueue.step) c.in-OnQueue.ensures
    c.queue_step.ensures

pub returns-in-OnBridge : goal.returns-in-OnBridge
returns-in-OnBridge c =
    made_by_place c.step_aside.result c.args.devs.now c.args.self.now c.step_aside.new.self c.args.step.now (OnBridge c.in-OnBridge.step) c.in-OnBridge.ensures
    (c.step_aside.ensures c.args.devs.now)
