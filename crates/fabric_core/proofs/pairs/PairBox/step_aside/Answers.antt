use Rattle.std.proofs.Common.{subst}
use Rattle.step_kinds.specs.declared.places.StepPlace.TheVariants.{OnBridge}
use Rattle.fabric_core.specs.PairBoxes.{pair_seen}
use Rattle.fabric_rule.specs.Parts.{PairState, with_bridge}
use Rattle.fabric_core.specs.StepCalls.{HasMadeAt}
use Rattle.fabric_core.proofs.SteppedPairs.{stepped_after, stepped_err, stepped_whole}
use Rattle.fabric_core.proofs.pairs.PairBox.step_aside.Goals as goal

pub invariant_of-self : goal.invariant_of-self
invariant_of-self c =
    stepped_whole (pair_seen c.self.inside) c.bridge_step.new.pair c.args.step c.bridge_step.result c.self.invariant c.bridge_step.ensures.after c.bridge_step.ensures.err

pub returns : goal.returns
returns c = λ devs.
    (let here = pair_seen c.self.inside in
    let step = c.bridge_step.ensures in
    subst (λ (state : PairState). HasMadeAt devs (OnBridge c.args.step) state (with_bridge here c.bridge_step.new.pair) c.bridge_step.result) c.self.view_is
    (record {
      answer = step.answer;
      after = stepped_after here c.bridge_step.new.pair c.args.step c.bridge_step.result step.after;
      err = stepped_err here c.bridge_step.new.pair c.bridge_step.result step.err;
      wants = step.wants;
      border = step.border;
    }))
