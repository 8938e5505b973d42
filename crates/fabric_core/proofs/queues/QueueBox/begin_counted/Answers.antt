use Rattle.std.proofs.Common.{◌≡◌, ◌∙◌, IsTrue, rules, ap, length, subst, sym, arith}
use Rattle.std.proofs.lemmas.Grind.{common_steps}
use Rattle.frame_ring.specs.Calls.{free_answer}
use Rattle.queue_pair.specs.Gates.{begin_answer}
use Rattle.queue_pair.specs.Queue.{QueueState}
use Rattle.fabric_rule.specs.Parts.{QueuePart}
use Rattle.fabric_core.specs.Numbers.{HasRoomToSend}
use Rattle.fabric_core.specs.Parts.{KeepsPort}
use Rattle.fabric_core.specs.QueueCalls.{IsBegun, counted_begun}
use Rattle.fabric_core.proofs.FrameTurns.{FrameTurned, begin_counters, begun_same, frame_counted}
use Rattle.fabric_core.proofs.QueueCalls.{turn_taken}
use Rattle.fabric_core.proofs.queues.QueueBox.begin_counted.Goals as goal
use Rattle.fabric_core.proofs.queues.QueueBox.begin_counted.Goals.{After-count_begun}

pub count_begun-requires-clause-room : goal.count_begun-requires-clause-room
count_begun-requires-clause-room c =
    let same = ap (λ (part : QueuePart). part.counters) c.in_ok-answer.ensures.after ∙ begin_counters c.args.self.now c.args.pair.now c.args.frame
    ∙ sym (ap (λ (part : QueuePart). part.counters) c.self.view_is) in
    let can : IsTrue c.can_send.result = search rules in
    subst HasRoomToSend (sym same) (c.can_send.ensures.0 can)

pub begin_frame-requires-clause-begins : goal.begin_frame-requires-clause-begins
begin_frame-requires-clause-begins c =
    subst IsBegun (begun_same c.args.self.now.flow.stopped (begin_answer c.args.self.now.queue c.args.pair.now (length c.args.frame)) c.requires.begins) c.requires.begins

turned : (c : After-count_begun) → FrameTurned c.args.self.now c.args.pair.now c.args.frame c.in_ok-answer.answer c.count_begun.new.self
turned c =
    frame_counted c.args.self.now c.begin_frame.new.self c.count_begun.new.self c.args.pair.now c.begin_frame.new.pair c.args.frame c.in_ok-answer.answer c.requires.begins c.in_ok-answer.ensures.answer
    c.in_ok-answer.ensures.after c.begin_frame.ensures.plain
    (c.count_begun.ensures ∙ ap (counted_begun c.begin_frame.new.self (free_answer c.begin_frame.new.self.queue.port c.begin_frame.new.pair)) c.len-len.ensures.value)

pub returns : goal.returns
returns c =
    turn_taken _ _ _ _ _ _ ((turned c).answered) ((turned c).turned)
    (first_of (search rules, grind (arith, common_steps)))
    (let left : c.count_begun.new.self.queue ≡ c.begin_frame.new.self.queue = ap (λ (part : QueuePart). part.queue) c.count_begun.ensures in
    subst (λ (queue : QueueState). KeepsPort c.args.self.now.queue.port queue.port c.args.pair.now c.begin_frame.new.pair) (sym left) c.begin_frame.ensures.keeps)
