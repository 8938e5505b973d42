use Rattle.std.proofs.lemmas.Result.{on_ok_weaker}
use Rattle.trace_command.proofs.Heads.{side_text}
use Rattle.trace_command.proofs.head.push_side.Goals as goal

pub returns : goal.returns
returns c =
    on_ok_weaker c.push_word-2.result
    (λ is.
    side_text c.args.pair.now c.args.side c.side_plan-own.result c.from.result c.from-2.result c.from-3.result c.args.text.now.items c.push_number_member.new.text.items
    c.push_number_member-2.new.text.items c.push_number_member-3.new.text.items c.push_number_member-4.new.text.items c.push_number_member-5.new.text.items
    c.push_word.new.text.items c.push_rings.new.text.items c.push_word-2.new.text.items c.side_plan-own.ensures c.from.ensures c.from-2.ensures c.from-3.ensures
    c.in_ok-push_number_member.ensures c.in_ok-push_number_member-2.ensures c.in_ok-push_number_member-3.ensures c.in_ok-push_number_member-4.ensures
    c.in_ok-push_number_member-5.ensures c.in_ok-push_word.ensures c.in_ok-push_rings.ensures is)
    c.push_word-2.ensures
