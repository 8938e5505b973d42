use Rattle.std.proofs.Common.{◌≡◌, ◌∙◌, ◌≤◌, Result, Ok, Err, IfOk, OnErr, OnOk, inl, inr, refl, subst, sym}
use Rattle.step_kinds.specs.Limits.{most_count}
use Rattle.step_kinds.specs.declared.steps.Answer.{Answer}
use Rattle.bridge_pair.specs.Bridge.{Bridge}
use Rattle.frame_ring.specs.PortView.{HasPagesIn}
use Rattle.pair_model.specs.Ethernet.{ethernet_frame}
use Rattle.fabric_rule.specs.Parts.{QueuePart}
use Rattle.fabric_core.specs.Parts.{KeepsPort}
use Rattle.fabric_core.specs.QueueCalls.{HasTurnedUnlessWanting, IsBegunOrUncounted, refused_once}
use Rattle.fabric_core.proofs.FrameTurns.{answered_by_length, begins_by, refused_by_answer, refused_frame}
use Rattle.fabric_core.proofs.QueueCalls.{keeps_same, turn_taken, unmade_turn, wants_more}
use Rattle.fabric_core.proofs.queues.QueueBox.xbegin.Goals as goal
use Rattle.fabric_rule.specs.Turns.{QueueTurn, frame_turn}

-- a refusal that is counted, or can't be
refused_where : {E : Type 0} (turn : QueueTurn) (part new : QueuePart) (bridge : Bridge) (given : Answer) (result : Result Answer E) → given ≡ turn.answer → refused_once part ≡ turn.part
    → IfOk result (λ answer. answer ≡ given) → OnOk result (new ≡ refused_once part) → OnErr result (new ≡ part) → OnErr result (most_count ≤ part.counters.refused) → HasPagesIn part.queue.port bridge
    → HasTurnedUnlessWanting (IsBegunOrUncounted part.counters) turn result part new bridge bridge
refused_where turn part new bridge given (Ok answer) is counted says after err wants ready =
    turn_taken turn answer part new bridge bridge (says ∙ is) (after ∙ counted) refl
    (subst (λ (new : QueuePart). KeepsPort part.queue.port new.queue.port bridge bridge) (sym after) (keeps_same part.queue.port bridge ready))
refused_where turn part new bridge given (Err error) is counted says after err wants ready =
    subst (λ (new : QueuePart). HasTurnedUnlessWanting (IsBegunOrUncounted part.counters) turn (Err error) part new bridge bridge) (sym err)
    (unmade_turn turn error part bridge (inr wants) ready)

pub begin_encoded-requires-clause-begins : goal.begin_encoded-requires-clause-begins
begin_encoded-requires-clause-begins c =
    let answered = answered_by_length c.args.self.now c.args.pair.now c.args.header.dst c.args.header.src c.args.header.kind c.args.payload.now c.frame_answer-answer.result c.len.result
    c.requires.payload.address c.requires.address c.len.ensures.value c.frame_answer-answer.ensures in
    begins_by _ _ c.in-OkNumber.number answered c.in-OkNumber.is

pub returns-in-OkNumber : goal.returns-in-OkNumber
returns-in-OkNumber c = wants_more (λ answer begun. inl begun) c.begin_encoded.ensures

pub returns : goal.returns
returns c =
    let answered = answered_by_length c.args.self.now c.args.pair.now c.args.header.dst c.args.header.src c.args.header.kind c.args.payload.now c.frame_answer-answer.result c.len.result
    c.requires.payload.address c.requires.address c.len.ensures.value c.frame_answer-answer.ensures in
    let frame = ethernet_frame c.args.header.dst c.args.header.src c.args.header.kind c.args.payload.now in
    refused_where (frame_turn c.args.self.now c.args.pair.now frame) c.args.self.now c.refuse.new.self c.args.pair.now c.frame_answer-answer.result c.refuse.result answered
    (refused_frame c.args.self.now c.args.pair.now frame (refused_by_answer _ _ answered c.in_default.not-OkNumber)) c.refuse.ensures.answer c.refuse.ensures.after c.refuse.ensures.err
    c.refuse.ensures.wants c.requires.ready.pages
