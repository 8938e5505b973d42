use Rattle.std.proofs.Common.{◌∙◌, ◌<◌, Ok, ap, length, refl, subst, sym}
use Rattle.std.proofs.lemmas.List.{get_or_read}
use Rattle.std.specs.declared.alloc.AllocError.{AllocError}
use Rattle.step_kinds.specs.declared.plan.DevPlan.{DevPlan}
use Rattle.step_kinds.specs.declared.places.QueueStep.{QueueStep}
use Rattle.step_kinds.specs.declared.places.QueueStep.TheVariants.{Begin, QpDown, Xbegin, Post, Look, Copy, Clear, Ack, Wake}
use Rattle.pair_model.specs.Ethernet.{ethernet_frame}
use Rattle.pair_model.specs.Plans.{no_dev}
use Rattle.fabric_rule.specs.Parts.{QueuePart}
use Rattle.fabric_core.specs.Parts.{CanTurnQueue, KeepsPort}
use Rattle.fabric_core.specs.QueueCalls.{HasTurnedUnlessWanting, IsBegunOrUncounted}
use Rattle.fabric_core.specs.StepCalls.{HasMadeOnQueue}
use Rattle.fabric_core.proofs.QueueCalls.{begin_made, keeps_same, look_made, may_take_turn, takes_turn, wants_more}
use Rattle.fabric_core.proofs.queues.QueueBox.make.Goals as goal
use Rattle.fabric_rule.specs.Turns.{frame_turn}

pub xbegin-requires-clause-payload : goal.xbegin-requires-clause-payload
xbegin-requires-clause-payload c = (subst (CanTurnQueue c.args.devs.now) c.in-Xbegin.is c.requires.step).2

pub xbegin-requires-clause-address : goal.xbegin-requires-clause-address
xbegin-requires-clause-address c =
    let within : c.in-Xbegin.dev < length c.args.devs.now = (subst (CanTurnQueue c.args.devs.now) c.in-Xbegin.is c.requires.step).0 in
    let device = get_or_read c.args.devs.now c.in-Xbegin.dev c.index-devs-dev.result within c.index-devs-dev.is no_dev in
    ap (λ (dev : DevPlan). length dev.address) (sym c.index-devs-dev.is ∙ device) ∙ (subst (CanTurnQueue c.args.devs.now) c.in-Xbegin.is c.requires.step).1

-- steps that may be out of memory

pub returns-in-Xbegin : goal.returns-in-Xbegin
returns-in-Xbegin c =
    let within : c.in-Xbegin.dev < length c.args.devs.now = (subst (CanTurnQueue c.args.devs.now) c.in-Xbegin.is c.requires.step).0 in
    let device = get_or_read c.args.devs.now c.in-Xbegin.dev c.index-devs-dev.result within c.index-devs-dev.is no_dev in
    let turned =
    subst
    (λ (dev : DevPlan). HasTurnedUnlessWanting (IsBegunOrUncounted c.args.self.now.counters) (frame_turn c.args.self.now c.args.pair.now (ethernet_frame c.in-Xbegin.dst.now dev.address c.in-Xbegin.kind c.in-Xbegin.payload.now))
    c.xbegin.result c.args.self.now c.xbegin.new.self c.args.pair.now c.xbegin.new.pair)
    (sym c.index-devs-dev.is ∙ device) c.xbegin.ensures in
    subst (λ (step : QueueStep). HasMadeOnQueue c.args.devs.now step c.args.self.now c.xbegin.new.self c.args.pair.now c.xbegin.new.pair c.xbegin.result) (sym c.in-Xbegin.is)
    (may_take_turn c.args.devs.now (Xbegin c.in-Xbegin.dev c.in-Xbegin.dst c.in-Xbegin.kind c.in-Xbegin.payload) c.xbegin.result c.args.self.now c.xbegin.new.self c.args.pair.now c.xbegin.new.pair refl refl turned)

pub returns-in-Begin : goal.returns-in-Begin
returns-in-Begin c =
    subst (λ (step : QueueStep). HasMadeOnQueue c.args.devs.now step c.args.self.now c.begin.new.self c.args.pair.now c.begin.new.pair c.begin.result) (sym c.in-Begin.is)
    (may_take_turn c.args.devs.now (Begin c.in-Begin.frame) c.begin.result c.args.self.now c.begin.new.self c.args.pair.now c.begin.new.pair refl refl (wants_more begin_made c.begin.ensures))

pub returns-in-QpDown : goal.returns-in-QpDown
returns-in-QpDown c =
    subst (λ (step : QueueStep). HasMadeOnQueue c.args.devs.now step c.args.self.now c.qpdown.new.self c.args.pair.now c.qpdown.new.pair c.qpdown.result) (sym c.in-QpDown.is)
    (may_take_turn c.args.devs.now QpDown c.qpdown.result c.args.self.now c.qpdown.new.self c.args.pair.now c.qpdown.new.pair refl refl (wants_more begin_made c.qpdown.ensures))

pub returns-in-Look : goal.returns-in-Look
returns-in-Look c =
    subst (λ (step : QueueStep). HasMadeOnQueue c.args.devs.now step c.args.self.now c.look.new.self c.args.pair.now c.look.new.pair c.look.result) (sym c.in-Look.is)
    (may_take_turn c.args.devs.now Look c.look.result c.args.self.now c.look.new.self c.args.pair.now c.look.new.pair refl refl (wants_more look_made c.look.ensures))

-- and those that never are

pub returns-in-Post : goal.returns-in-Post
returns-in-Post c =
    subst (λ (step : QueueStep). HasMadeOnQueue {E = AllocError} c.args.devs.now step c.args.self.now c.post.new.self c.args.pair.now c.post.new.pair (Ok c.post.result)) (sym c.in-Post.is)
    (takes_turn c.args.devs.now Post c.post.result c.args.self.now c.post.new.self c.args.pair.now c.post.new.pair c.post.ensures)

pub returns-in-Copy : goal.returns-in-Copy
returns-in-Copy c =
    subst (λ (step : QueueStep). HasMadeOnQueue {E = AllocError} c.args.devs.now step c.args.self.now c.copy.new.self c.args.pair.now c.args.pair.now (Ok c.copy.result)) (sym c.in-Copy.is)
    (takes_turn c.args.devs.now Copy c.copy.result c.args.self.now c.copy.new.self c.args.pair.now c.args.pair.now c.copy.ensures)

pub returns-in-Clear : goal.returns-in-Clear
returns-in-Clear c =
    subst (λ (step : QueueStep). HasMadeOnQueue {E = AllocError} c.args.devs.now step c.args.self.now c.clear.new.self c.args.pair.now c.clear.new.pair (Ok c.clear.result)) (sym c.in-Clear.is)
    (takes_turn c.args.devs.now Clear c.clear.result c.args.self.now c.clear.new.self c.args.pair.now c.clear.new.pair c.clear.ensures)

pub returns-in-Ack : goal.returns-in-Ack
returns-in-Ack c =
    subst (λ (step : QueueStep). HasMadeOnQueue {E = AllocError} c.args.devs.now step c.args.self.now c.ack.new.self c.args.pair.now c.ack.new.pair (Ok c.ack.result)) (sym c.in-Ack.is)
    (takes_turn c.args.devs.now Ack c.ack.result c.args.self.now c.ack.new.self c.args.pair.now c.ack.new.pair c.ack.ensures)

pub returns-in-Wake : goal.returns-in-Wake
returns-in-Wake c =
    let old = c.args.self.now in
    let pair = c.args.pair.now in
    subst (λ (step : QueueStep). HasMadeOnQueue {E = AllocError} c.args.devs.now step old c.wake.new.self pair pair (Ok c.wake.result)) (sym c.in-Wake.is)
    (takes_turn c.args.devs.now (Wake c.in-Wake.dev) c.wake.result old c.wake.new.self pair pair (record {
      answer = c.wake.ensures.answer;
      after = c.wake.ensures.after;
      bridge = refl;
      keeps = subst (λ (part : QueuePart). KeepsPort old.queue.port part.queue.port pair pair) (sym c.wake.ensures.after) (keeps_same old.queue.port pair c.requires.pages);
    }))
