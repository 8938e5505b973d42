use Rattle.std.proofs.Common.{◌<◌, subst, sym}
use Rattle.pair_model.specs.Plans.{side_plan}
use Rattle.step_kinds.specs.declared.names.Side.{Side}
use Rattle.step_kinds.specs.declared.names.Side.TheVariants.{A, B}
use Rattle.step_kinds.specs.declared.places.StepPlace.TheVariants.{OnQueue}
use Rattle.fabric_rule.specs.Parts.{PairState}
use Rattle.fabric_core.specs.StepCalls.{HasMadeAt}
use Rattle.fabric_core.proofs.SteppedPairs.{called, made_on_side, sides_of}
use Rattle.fabric_core.proofs.pairs.PairBox.queue_step.Goals as goal

pub invariant_of-self : goal.invariant_of-self
invariant_of-self c =
    let below =
    subst (λ (state : PairState). c.args.queue < (side_plan state.bridge.plan A).queues) (sym c.self.view_is)
    (subst (λ (side : Side). c.args.queue < (side_plan c.args.self.now.bridge.plan side).queues) c.in-A.is c.requires.among) in
    called c.self.inside.pair c.make_at.new.pair A c.self.inside.queues_a.items c.self.inside.queues_b.items c.make_at.new.queues.items c.args.queue c.self.invariant below c.make_at.ensures.queues
    c.make_at.ensures.made.keeps

pub invariant_of-self-in-B : goal.invariant_of-self-in-B
invariant_of-self-in-B c =
    let below =
    subst (λ (state : PairState). c.args.queue < (side_plan state.bridge.plan B).queues) (sym c.self.view_is)
    (subst (λ (side : Side). c.args.queue < (side_plan c.args.self.now.bridge.plan side).queues) c.in-B.is c.requires.among) in
    called c.self.inside.pair c.make_at-in-B.new.pair B c.self.inside.queues_b.items c.self.inside.queues_a.items c.make_at-in-B.new.queues.items c.args.queue c.self.invariant below
    c.make_at-in-B.ensures.queues c.make_at-in-B.ensures.made.keeps

pub returns-in-A : goal.returns-in-A
returns-in-A c =
    let new = sides_of c.make_at.new.pair A c.make_at.new.queues.items c.self.inside.queues_b.items in
    subst (λ (side : Side). HasMadeAt c.args.devs.now (OnQueue side c.args.queue c.args.step) c.args.self.now new c.make_at.result) (sym c.in-A.is)
    (subst (λ (state : PairState). HasMadeAt c.args.devs.now (OnQueue A c.args.queue c.args.step) state new c.make_at.result) c.self.view_is
    (made_on_side c.args.devs.now c.args.step c.make_at.result c.self.inside.pair c.make_at.new.pair A c.self.inside.queues_a.items c.self.inside.queues_b.items c.make_at.new.queues.items c.args.queue
    c.make_at.ensures.queues c.make_at.ensures.err c.make_at.ensures.made))

pub returns-in-B : goal.returns-in-B
returns-in-B c =
    let new = sides_of c.make_at-in-B.new.pair B c.make_at-in-B.new.queues.items c.self.inside.queues_a.items in
    subst (λ (side : Side). HasMadeAt c.args.devs.now (OnQueue side c.args.queue c.args.step) c.args.self.now new c.make_at-in-B.result) (sym c.in-B.is)
    (subst (λ (state : PairState). HasMadeAt c.args.devs.now (OnQueue B c.args.queue c.args.step) state new c.make_at-in-B.result) c.self.view_is
    (made_on_side c.args.devs.now c.args.step c.make_at-in-B.result c.self.inside.pair c.make_at-in-B.new.pair B c.self.inside.queues_b.items c.self.inside.queues_a.items c.make_at-in-B.new.queues.items c.args.queue
    c.make_at-in-B.ensures.queues c.make_at-in-B.ensures.err c.make_at-in-B.ensures.made))
