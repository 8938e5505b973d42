use Rattle.std.proofs.Common.{◌∙◌, ap, subst, sym, rules, arith}
use Rattle.std.proofs.lemmas.Grind.{common_steps}
use Rattle.lane_model.specs.Tests.{is_copying}
use Rattle.frame_ring.specs.Port.{Receiving}
use Rattle.fabric_rule.specs.Answers.{of_begin}
use Rattle.fabric_rule.specs.Parts.{QueuePart}
use Rattle.fabric_core.specs.QueueCalls.{IsBegun, is_begun}
use Rattle.fabric_core.proofs.MorePages.{on_err}
use Rattle.fabric_core.proofs.UnusedPromises.{down_more}
use Rattle.fabric_core.proofs.PromisesOfQueues.{begun_keeps, down_place, down_receives, plain_grown, wanted_keeps}
use Rattle.fabric_core.proofs.QueueParts.{box_kept}
use Rattle.fabric_core.proofs.QueueCalls.{turn_taken}
use Rattle.fabric_core.proofs.queues.QueueBox.qpdown.Goals as goal
use Rattle.fabric_rule.specs.Turns.{qpdown_turn}

pub returns-in_err-begun : goal.returns-in_err-begun
returns-in_err-begun c = record { answer = first_of (search rules, grind (arith, common_steps)); after = first_of (search rules, grind (arith, common_steps)); err = first_of (search rules, grind (arith, common_steps)); wants = on_err _ (subst (λ (part : QueuePart). IsBegun (qpdown_turn part c.args.pair.now).answer) c.self.view_is (ap (λ answer. is_begun (of_begin answer)) c.in_err-begun.ensures.wants)); plain = (plain_grown c.self.inside.queue.port c.qpdown.new.self.port c.args.pair.now c.qpdown.new.pair c.qpdown.ensures.rest); keeps = (wanted_keeps _ _ c.qpdown.new.self c.args.pair.now c.qpdown.new.pair _ c.self.view_is c.in_err-begun.ensures.err c.qpdown.ensures.rest c.qpdown.ensures.pages c.requires.pages) }

-- a queue that goes down receives as before
pub invariant_of-self-2 : goal.invariant_of-self-2
invariant_of-self-2 c =
    box_kept c.self.inside c.qpdown.new.self _ c.self.invariant c.in_ok-begun.ensures.after
    (λ later. ap (λ (receiving : Receiving). is_copying receiving.phase) (sym (down_receives c.self.inside.queue c.args.pair.now)) ∙ later)

pub returns : goal.returns
returns c =
    turn_taken _ _ _ _ _ _ (first_of (search rules, grind (arith, common_steps))) (first_of (search rules, grind (arith, common_steps)))
    (plain_grown c.self.inside.queue.port c.qpdown.new.self.port c.args.pair.now c.qpdown.new.pair c.qpdown.ensures.rest)
    (begun_keeps _ _ c.qpdown.new.self _ c.args.pair.now c.qpdown.new.pair _ c.self.view_is c.in_ok-begun.ensures.after (down_place c.self.inside.queue c.args.pair.now) (down_more c.self.inside.queue c.args.pair.now) c.qpdown.ensures.rest
    c.qpdown.ensures.pages c.in_ok-begun.ensures.ready c.requires.pages)
