use Rattle.std.proofs.Common.{◌≡◌, ◌∙◌, ℕ, ap, sym, rules, arith}
use Rattle.std.proofs.lemmas.Grind.{common_steps}
use Rattle.lane_model.specs.Tests.{is_copying}
use Rattle.frame_ring.specs.Port.{Receiving}
use Rattle.queue_pair.specs.Gates.{look_answer}
use Rattle.queue_pair.specs.declared.LookAnswer.TheVariants.{Ready}
use Rattle.fabric_core.proofs.UnusedPromises.{look_more}
use Rattle.fabric_core.proofs.PromisesOfQueues.{looked_keeps, plain_grown_both}
use Rattle.fabric_core.proofs.Phases.{look_place, unfound_receives}
use Rattle.fabric_core.proofs.QueueParts.{box_kept}
use Rattle.fabric_core.proofs.QueueCalls.{turn_taken}
use Rattle.fabric_core.proofs.queues.QueueBox.look.Goals as goal

-- a look that finds nothing receives as before
pub invariant_of-self-2 : goal.invariant_of-self-2
invariant_of-self-2 c =
    let other : (number len : ℕ) → look_answer c.self.inside.queue c.args.pair.now ≡ Ready number len → ⊥ = λ number len is. c.in_default.not-Ready number len (c.look_answer.ensures ∙ is) in
    box_kept c.self.inside c.look.new.self _ c.self.invariant c.in_ok-look.ensures.after
    (λ later. ap (λ (receiving : Receiving). is_copying receiving.phase) (sym (unfound_receives c.self.inside.queue c.args.pair.now other)) ∙ later)

pub returns : goal.returns
returns c =
    turn_taken _ _ _ _ _ _ (first_of (search rules, grind (arith, common_steps))) (first_of (search rules, grind (arith, common_steps)))
    (plain_grown_both c.self.inside.queue.port c.look.new.self.port c.args.pair.now c.look.new.pair c.look.ensures.rest)
    (looked_keeps _ _ c.look.new.self _ c.args.pair.now c.look.new.pair _ _ c.self.view_is c.in_ok-look.ensures.after (look_place c.self.inside.queue c.args.pair.now) (look_more c.self.inside.queue c.args.pair.now) c.look.ensures.rest
    c.look.ensures.pages c.look.ensures.flags c.in_ok-look.ensures.ready c.requires.pages)
