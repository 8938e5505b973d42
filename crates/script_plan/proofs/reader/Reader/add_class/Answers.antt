use Rattle.std.proofs.Common.{◌≡◌, ◌<◌, length, ap, arith}
use Rattle.script_words.specs.Before.{Before}
use Rattle.script_plan.specs.LinesSoFar.{before_with}
use Rattle.script_plan.proofs.Soundness.{class_added}
use Rattle.script_plan.proofs.reader.Reader.add_class.Goals as goal

pub invariant_of-self-2 : goal.invariant_of-self-2
invariant_of-self-2 c =
    let i = c.self.inside in
    let b : Before = before_with i.part i.hosts i.pairs i.devs i.switches i.steps i.traffic i.pair_hosts.items i.classed.items in
    let seen : length b.plan.pairs ≡ length c.args.self.now.plan.pairs = ap (λ before. length before.plan.pairs) c.self.view_is in
    let lt : c.args.name.pair < length b.plan.pairs = let declared = c.requires.queue.declared in omega arith in
    record { sound = class_added b c.set_class.new.self c.push.new.self.items c.args.name.pair c.args.name.side c.args.name.queue c.args.class c.self.invariant.sound lt c.requires.class c.set_class.ensures; counted = c.self.invariant.counted }
