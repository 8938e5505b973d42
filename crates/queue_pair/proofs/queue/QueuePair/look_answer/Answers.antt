use Rattle.std.proofs.Common.{◌∙◌, ap, sym}
use Rattle.frame_ring.specs.Calls.{port_look_answer}
use Rattle.frame_ring.specs.declared.RingLook.{RingLook}
use Rattle.queue_pair.proofs.LookAnswers.{answers_by_port, answers_closed, answers_unjoined}
use Rattle.queue_pair.specs.Gates.{answer_of_look}
use Rattle.queue_pair.specs.Queue.{QueueState}
use Rattle.queue_pair.proofs.queue.QueuePair.look_answer.Goals as goal

pub returns-then-not-is_joined : goal.returns-then-not-is_joined
returns-then-not-is_joined c = sym (answers_unjoined c.args.self.now c.args.pair.now (sym c.is_joined.ensures ∙ c.if-not-is_joined.true))

pub returns-then-self : goal.returns-then-self
returns-then-self c =
    let closed = ap (λ (queue : QueueState). queue.closed) c.self.view_is in
    sym (answers_closed c.args.self.now c.args.pair.now (sym c.is_joined.ensures ∙ c.if-not-is_joined.false) (sym closed ∙ c.if-self.true))

pub returns-else-self : goal.returns-else-self
returns-else-self c =
    let closed = ap (λ (queue : QueueState). queue.closed) c.self.view_is in
    let by_port = c.look_answer.ensures ∙ ap (λ (queue : QueueState). port_look_answer queue.port c.args.pair.now) c.self.view_is in
    c.answer_of_look.ensures ∙ ap (λ (look : RingLook). answer_of_look look) by_port
    ∙ sym (answers_by_port c.args.self.now c.args.pair.now (sym c.is_joined.ensures ∙ c.if-not-is_joined.false) (sym closed ∙ c.if-self.false))
