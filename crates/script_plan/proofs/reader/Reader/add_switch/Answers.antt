use Rattle.std.proofs.Common.{sym, subst}
use Rattle.pair_model.specs.Switches.{IsSwitch}
use Rattle.script_words.specs.Before.{Before}
use Rattle.script_plan.specs.LinesSoFar.{before_with}
use Rattle.script_plan.proofs.Soundness.{switch_added}
use Rattle.script_plan.proofs.reader.Reader.add_switch.Goals as goal

pub invariant_of-self-2 : goal.invariant_of-self-2
invariant_of-self-2 c =
    let i = c.self.inside in
    let b : Before = before_with i.part i.hosts i.pairs i.devs i.switches i.steps i.traffic i.pair_hosts.items i.classed.items in
    let P : Before → Type 0 = λ before. IsSwitch before.plan c.args.switch in
    record { sound = switch_added b c.push.new.self c.args.switch c.self.invariant.sound (subst P (sym c.self.view_is) c.requires.fits) c.in_ok-push.ensures.ok; counted = c.self.invariant.counted }
