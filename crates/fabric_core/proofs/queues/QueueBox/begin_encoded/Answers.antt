use Rattle.std.proofs.Common.{◌≡◌, ◌∙◌, ap, refl, rules, subst, sym, arith}
use Rattle.std.proofs.lemmas.Grind.{common_steps}
use Rattle.pair_model.specs.Ethernet.{ethernet_frame}
use Rattle.fabric_core.specs.QueueCalls.{HasTurnedUnlessWanting, IsBegun}
use Rattle.fabric_core.proofs.MorePages.{on_err}
use Rattle.fabric_core.proofs.QueueCalls.{keeps_same}
use Rattle.fabric_core.proofs.queues.QueueBox.begin_encoded.Goals as goal
use Rattle.fabric_core.proofs.queues.QueueBox.begin_encoded.Goals.{After-begin_counted}
use Rattle.fabric_rule.specs.Turns.{frame_turn}

frame_is : (c : After-begin_counted) → c.in_ok-frame.frame ≡ ethernet_frame c.args.header.dst c.args.header.src c.args.header.kind c.args.payload.now
frame_is c = c.in_ok-frame.ensures ∙ ap (ethernet_frame c.args.header.dst c.args.header.src c.args.header.kind) c.bytes.ensures.value

pub begin_counted-requires-clause-begins : goal.begin_counted-requires-clause-begins
begin_counted-requires-clause-begins c =
    let is = c.in_ok-frame.ensures ∙ ap (ethernet_frame c.args.header.dst c.args.header.src c.args.header.kind) c.bytes.ensures.value in
    subst (λ frame. IsBegun (frame_turn c.args.self.now c.args.pair.now frame).answer) (sym is) c.requires.begins

pub returns-in_err-frame : goal.returns-in_err-frame
returns-in_err-frame c = record {
  answer = first_of (search rules, grind (arith, common_steps));
  after = first_of (search rules, grind (arith, common_steps));
  err = on_err _ refl;
  wants = on_err _ c.requires.begins;
  plain = refl;
  keeps = keeps_same c.args.self.now.queue.port c.args.pair.now c.requires.ready.pages;
}

pub returns : goal.returns
returns c =
    subst (λ frame. HasTurnedUnlessWanting IsBegun (frame_turn c.args.self.now c.args.pair.now frame) c.begin_counted.result c.args.self.now c.begin_counted.new.self c.args.pair.now c.begin_counted.new.pair)
    (frame_is c) c.begin_counted.ensures
