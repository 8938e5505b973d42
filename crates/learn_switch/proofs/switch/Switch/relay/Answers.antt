use Rattle.std.proofs.Common.{◌≡◌, ◌<◌, length, rules, subst, sym, ◌∙◌, arith}
use Rattle.std.proofs.lemmas.List.{length-set}
use Rattle.pair_model.specs.Fdb.{AreBelow, learned_source}
use Rattle.pair_model.proofs.Facade.{learned_source-below}
use Rattle.learn_switch.specs.Frames.{AllHaveHeaders}
use Rattle.learn_switch.proofs.LongFrames.{headers-forwarded}
use Rattle.learn_switch.proofs.switch.Switch.relay.Goals as goal

pub invariant_of-self-2 : goal.invariant_of-self-2
invariant_of-self-2 c =
    let inboxes = c.self.inside.inboxes.items in
    let ports = length c.self.inside.waiting.items in
    let same : length c.forward.new.waiting.items ≡ ports = c.forward.ensures.ports in
    let within : c.args.port < length inboxes = search rules in
    let below : c.args.port < ports = subst (λ n. c.args.port < n) c.self.invariant.same_ports within in
    let learned : AreBelow ports (learned_source c.self.inside.fdb c.args.port c.in-Ok.header.src) =
    learned_source-below ports c.self.inside.fdb c.in-Ok.header.src c.args.port c.self.invariant.stations below in
    let known : AreBelow ports c.learn_source.new.self = subst (AreBelow ports) (sym c.learn_source.ensures) learned in record {
      same_ports = length-set inboxes c.args.port c.drop_first-2.new.self ∙ (c.self.invariant.same_ports ∙ sym same);
      few_ports = omega (arith, same, c.self.invariant.few_ports);
      stations = subst (λ n. AreBelow n c.learn_source.new.self) (sym same) known;
      headers = subst AllHaveHeaders (sym c.in_ok-forward.ensures.ok) (headers-forwarded _ c.args.port c.in-Some.frame.now c.route-answer.result c.self.invariant.headers c.in-Ok.ensures.header.0);
    }
