use Rattle.std.proofs.Common.{◌∙◌}
use Rattle.std.proofs.lemmas.Result.{on_ok_weaker}
use Rattle.trace_command.proofs.Rings.{ring_text}
use Rattle.trace_command.proofs.head.push_ring_object.Goals as goal

pub returns : goal.returns
returns c =
    on_ok_weaker c.push_word.result
    (λ is.
    ring_text c.args.pair.now c.args.side c.args.queue c.sending_ring-ring.result c.from.result c.from-2.result c.from-3.result c.args.text.now.items
    c.push_number_member.new.text.items c.push_number_member-2.new.text.items c.push_number_member-3.new.text.items c.push_word.new.text.items c.sending_ring-ring.ensures.value
    (c.from.ensures ∙ c.entries.ensures.value) (c.from-2.ensures ∙ c.max_payload.ensures) (c.from-3.ensures ∙ c.class_on.ensures) c.in_ok-push_number_member.ensures
    c.in_ok-push_number_member-2.ensures c.in_ok-push_number_member-3.ensures is)
    c.push_word.ensures
