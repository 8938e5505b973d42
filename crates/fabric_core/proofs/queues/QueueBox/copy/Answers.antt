use Rattle.std.proofs.Common.{◌≡◌, ◌∙◌, ap, false, refl, subst, sym}
use Rattle.step_kinds.specs.declared.lanes.LaneCopy.{LaneCopy}
use Rattle.lane_model.specs.Tests.{is_copying}
use Rattle.pair_model.specs.Device.{count_delivered}
use Rattle.pair_model.specs.Link.{Link}
use Rattle.frame_ring.specs.Calls.{port_after_copy}
use Rattle.frame_ring.specs.Port.{PortState}
use Rattle.frame_ring.specs.PortView.{HasPagesIn}
use Rattle.queue_pair.specs.Queue.{QueueState, with_port}
use Rattle.fabric_rule.specs.Answers.{of_copy}
use Rattle.fabric_rule.specs.Parts.{QueuePart, one_more}
use Rattle.fabric_core.specs.Parts.{KeepsPort}
use Rattle.fabric_core.specs.QueueBoxes.{part_seen}
use Rattle.fabric_core.proofs.Phases.{copy_goes_on, whole_copied, whole_copying}
use Rattle.fabric_core.proofs.QueueParts.{box_kept, keeps_copy, not_whole, part_with, same_part}
use Rattle.fabric_core.proofs.queues.QueueBox.copy.Goals as goal
use Rattle.fabric_core.proofs.queues.QueueBox.copy.Goals.{in-Whole, in_default}
use Rattle.fabric_rule.specs.Turns.{copy_turn, delivered_where_whole}

pub one_more-requires : goal.one_more-requires
one_more-requires c =
    c.self.invariant.room (whole_copying c.self.inside.queue.port c.args.pair.now c.in-Whole.number c.in-Whole.frame (sym c.copy-copy.ensures.port.answer ∙ c.in-Whole.is))

pub delivered-self-inside-requires : goal.delivered-self-inside-requires
delivered-self-inside-requires c =
    c.self.invariant.numbers (whole_copying c.self.inside.queue.port c.args.pair.now c.in-Whole.number c.in-Whole.frame (sym c.copy-copy.ensures.port.answer ∙ c.in-Whole.is))

pub invariant_of-self : goal.invariant_of-self
invariant_of-self c =
    let done : is_copying c.copy-copy.new.self.port.receiving.phase ≡ false =
    ap (λ (queue : QueueState). is_copying queue.port.receiving.phase) (c.copy-copy.ensures.rest ∙ ap (with_port c.self.inside.queue) c.copy-copy.ensures.port.after)
    ∙ whole_copied c.self.inside.queue.port c.args.pair.now c.in-Whole.number c.in-Whole.frame (sym c.copy-copy.ensures.port.answer ∙ c.in-Whole.is) in
    record { room = λ later. absurd (cc (done, later)); numbers = λ later. absurd (cc (done, later)) }

pub invariant_of-self-in_default : goal.invariant_of-self-in_default
invariant_of-self-in_default c = box_kept c.self.inside c.copy-copy.new.self _ c.self.invariant (c.copy-copy.ensures.rest ∙ ap (with_port c.self.inside.queue) c.copy-copy.ensures.port.after) (copy_goes_on c.self.inside.queue.port c.args.pair.now)

pub returns : goal.returns
returns c =
    let inside = c.self.inside in
    let old = inside.queue.port in
    let bridge = c.args.pair.now in
    let queue = with_port inside.queue (port_after_copy old bridge) in
    let part = part_with queue inside.flow inside.counters inside.accepted.counts inside.delivered.counts in
    let left : c.copy-copy.new.self ≡ queue = c.copy-copy.ensures.rest ∙ ap (with_port inside.queue) c.copy-copy.ensures.port.after in
    let copied : c.match-copy.self.queue ≡ queue = elim c.match-copy.branch [
      | in-Whole w ↦ ap (λ (part : QueuePart). part.queue) w.self-is ∙ left
      | in_default w ↦ ap (λ (part : QueuePart). part.queue) w.self-is ∙ left
    ] in
    let counted : c.match-copy.self ≡ (copy_turn (part_seen inside) bridge).part = elim c.match-copy.branch [
      | in-Whole w ↦
          w.self-is
          ∙ same_part c.copy-copy.new.self queue inside.flow inside.flow w.delivered-self-inside.result _ inside.accepted.counts inside.accepted.counts w.one_more.new.self.counts _
          left refl (w.delivered-self-inside.ensures ∙ ap (count_delivered inside.counters) w.len.ensures.value) refl
          (w.one_more.ensures.counts ∙ ap (one_more inside.delivered.counts) (w.session.ensures.value ∙ ap (λ (link : Link). link.session) w.link.ensures))
          ∙ ap (λ (copy : LaneCopy). delivered_where_whole copy bridge.link.session part) (sym w.in-Whole.is ∙ c.copy-copy.ensures.port.answer)
      | in_default w ↦
          w.self-is
          ∙ same_part c.copy-copy.new.self queue inside.flow inside.flow inside.counters inside.counters inside.accepted.counts inside.accepted.counts inside.delivered.counts inside.delivered.counts
          left refl refl refl refl
          ∙ sym (not_whole c.copy-copy.result bridge.link.session part w.in_default.not-Whole)
          ∙ ap (λ (copy : LaneCopy). delivered_where_whole copy bridge.link.session part) c.copy-copy.ensures.port.answer
    ] in
    let had : HasPagesIn old bridge = subst (λ (part : QueuePart). HasPagesIn part.queue.port bridge) (sym c.self.view_is) c.requires.pages in
    let ready : HasPagesIn (port_after_copy old bridge) bridge = subst (λ (port : PortState). HasPagesIn port bridge) c.copy-copy.ensures.port.after (c.copy-copy.ensures.port.ready had) in
    record {
      answer = c.copy_answer.ensures ∙ ap of_copy c.copy-copy.ensures.port.answer ∙ ap (λ (part : QueuePart). (copy_turn part bridge).answer) c.self.view_is;
      after = counted ∙ ap (λ (part : QueuePart). (copy_turn part bridge).part) c.self.view_is;
      bridge = refl;
      keeps =
          subst (λ (part : QueuePart). KeepsPort part.queue.port c.match-copy.self.queue.port bridge bridge) c.self.view_is
          (subst (λ (queue : QueueState). KeepsPort old queue.port bridge bridge) (sym copied) (keeps_copy old bridge ready));
    }
