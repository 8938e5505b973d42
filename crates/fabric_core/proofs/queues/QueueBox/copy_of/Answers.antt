use Rattle.std.proofs.Common.{◌≡◌, ◌∙◌, ap, subst, true}
use Rattle.lane_model.specs.Tests.{is_copying}
use Rattle.queue_pair.specs.Queue.{QueueState}
use Rattle.fabric_core.specs.Sessions.{Tallied}
use Rattle.fabric_core.proofs.queues.QueueBox.copy_of.Goals as goal

pub invariant_of-result : goal.invariant_of-result
invariant_of-result c =
    let there = λ (copying : is_copying c.in_ok-copy_of.field-0.port.receiving.phase ≡ true). subst (λ (queue : QueueState). is_copying queue.port.receiving.phase ≡ true) c.in_ok-copy_of.ensures copying in
    record {
      room = λ copying. ap (λ (tallied : Tallied). tallied.has_room) c.in_ok-copy_of-3.ensures ∙ c.self.invariant.room (there copying);
      numbers = λ copying. c.self.invariant.numbers (there copying);
    }
