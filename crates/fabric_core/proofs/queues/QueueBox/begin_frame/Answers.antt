use Rattle.std.proofs.Common.{◌≡◌, ◌∙◌, ap, length, refl, subst, sym, rules, arith}
use Rattle.std.proofs.lemmas.Grind.{common_steps}
use Rattle.lane_model.specs.Tests.{is_copying}
use Rattle.pair_model.specs.Link.{Link}
use Rattle.bridge_pair.specs.Bridge.{Bridge}
use Rattle.frame_ring.specs.Port.{Receiving}
use Rattle.queue_pair.specs.Gates.{queue_after_begin, begin_answer}
use Rattle.queue_pair.specs.Queue.{QueueState}
use Rattle.fabric_rule.specs.Answers.{of_begin}
use Rattle.fabric_rule.specs.Parts.{QueuePart, one_more}
use Rattle.fabric_core.specs.QueueCalls.{IsBegun}
use Rattle.fabric_core.specs.Sessions.{Tallied}
use Rattle.fabric_core.proofs.FrameTurns.{begins_where, begun_counts}
use Rattle.fabric_core.proofs.UnusedPromises.{begin_more}
use Rattle.fabric_core.proofs.PromisesOfQueues.{begin_place, begin_receives, begun_keeps, plain_grown, wanted_keeps}
use Rattle.fabric_core.proofs.MorePages.{on_err}
use Rattle.fabric_core.proofs.QueueParts.{part_with, same_part}
use Rattle.fabric_core.proofs.QueueCalls.{turn_taken}
use Rattle.fabric_core.proofs.queues.QueueBox.begin_frame.Goals as goal
use Rattle.fabric_rule.specs.Turns.{begin_turn}

pub begin_unrefused-requires-clause-begins : goal.begin_unrefused-requires-clause-begins
begin_unrefused-requires-clause-begins c =
    let begins : IsBegun (of_begin (begin_answer c.self.inside.queue c.args.pair.now (length c.args.frame))) =
    subst (λ (part : QueuePart). IsBegun (begin_turn part c.args.pair.now c.args.frame).answer) (sym c.self.view_is) c.requires.begins in
    begins_where _ begins

pub returns-in_err-number : goal.returns-in_err-number
returns-in_err-number c = record { answer = first_of (search rules, grind (arith, common_steps)); after = first_of (search rules, grind (arith, common_steps)); err = first_of (search rules, grind (arith, common_steps)); wants = on_err _ c.requires.begins; plain = (plain_grown c.self.inside.queue.port c.begin_unrefused.new.self.port c.args.pair.now c.begin_unrefused.new.pair c.begin_unrefused.ensures.rest); keeps = (wanted_keeps _ _ c.begin_unrefused.new.self c.args.pair.now c.begin_unrefused.new.pair _ c.self.view_is c.in_err-number.ensures.err c.begin_unrefused.ensures.rest c.begin_unrefused.ensures.pages c.requires.ready.pages) }

-- a queue on which a frame is begun receives as before
pub invariant_of-self-2 : goal.invariant_of-self-2
invariant_of-self-2 c =
    let receives = ap (λ (queue : QueueState). queue.port.receiving) c.in_ok-number.ensures.after ∙ begin_receives c.self.inside.queue c.args.pair.now c.args.frame in
    let same = ap (λ (receiving : Receiving). is_copying receiving.phase) receives in
    record { room = λ later. c.self.invariant.room (sym same ∙ later); numbers = λ later. c.self.invariant.numbers (sym same ∙ later) }

pub returns : goal.returns
returns c =
    let inside = c.self.inside in
    let bridge = c.args.pair.now in
    let queue = queue_after_begin inside.queue bridge c.args.frame in
    let part = part_with queue inside.flow inside.counters inside.accepted.counts inside.delivered.counts in
    let answer = of_begin (begin_answer inside.queue bridge (length c.args.frame)) in
    let begins : IsBegun answer = subst (λ (part : QueuePart). IsBegun (begin_turn part bridge c.args.frame).answer) (sym c.self.view_is) c.requires.begins in
    let room : c.make_room.new.self.counts ≡ inside.accepted.counts = ap (λ (tally : Tallied). tally.counts) c.in_ok-make_room.ensures.ok in
    let link : c.begin_unrefused.new.pair.link ≡ bridge.link = ap (λ (bridge : Bridge). bridge.link) c.begin_unrefused.ensures.rest in
    turn_taken _ _ _ _ _ _ (first_of (search rules, grind (arith, common_steps)))
    (subst (λ (part : QueuePart). part_with c.begin_unrefused.new.self inside.flow inside.counters c.one_more.new.self.counts inside.delivered.counts ≡ (begin_turn part bridge c.args.frame).part) c.self.view_is
    (same_part c.begin_unrefused.new.self queue inside.flow inside.flow inside.counters inside.counters c.one_more.new.self.counts _ inside.delivered.counts inside.delivered.counts
    c.in_ok-number.ensures.after refl refl
    (c.one_more.ensures.counts ∙ ap (λ counts. one_more counts c.session.result) room
    ∙ ap (one_more inside.accepted.counts) (c.session.ensures.value ∙ ap (λ (link : Link). link.session) (c.link.ensures ∙ link))) refl
    ∙ sym (begun_counts answer bridge.link.session part begins)))
    (plain_grown inside.queue.port c.begin_unrefused.new.self.port bridge c.begin_unrefused.new.pair c.begin_unrefused.ensures.rest)
    (begun_keeps _ _ c.begin_unrefused.new.self _ bridge c.begin_unrefused.new.pair _ c.self.view_is c.in_ok-number.ensures.after (begin_place inside.queue bridge c.args.frame) (begin_more inside.queue bridge c.args.frame) c.begin_unrefused.ensures.rest
    c.begin_unrefused.ensures.pages c.in_ok-number.ensures.ready c.requires.ready.pages)
