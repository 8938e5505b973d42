use Rattle.std.proofs.Common.{◌∙◌}
use Rattle.std.proofs.lemmas.Result.{on_ok_weaker}
use Rattle.trace_command.proofs.Heads.{pair_text}
use Rattle.trace_command.proofs.head.push_pair.Goals as goal

pub returns : goal.returns
returns c =
    on_ok_weaker c.push_word-3.result
    (λ is.
    pair_text c.args.pair.now c.bytes.result.now c.from.result c.from-2.result c.args.text.now.items c.push_text_member.new.text.items c.push_truth.new.text.items
    c.push_truth-2.new.text.items c.push_truth-3.new.text.items c.push_number_member.new.text.items c.push_number_member-2.new.text.items c.push_word.new.text.items
    c.push_side.new.text.items c.push_word-2.new.text.items c.push_side-2.new.text.items c.push_word-3.new.text.items c.bytes.ensures.value
    (c.from.ensures ∙ c.agreed_version.ensures) c.from-2.ensures c.in_ok-push_text_member.ensures c.in_ok-push_truth.ensures c.in_ok-push_truth-2.ensures
    c.in_ok-push_truth-3.ensures c.in_ok-push_number_member.ensures c.in_ok-push_number_member-2.ensures c.in_ok-push_word.ensures c.in_ok-push_side.ensures
    c.in_ok-push_word-2.ensures c.in_ok-push_side-2.ensures is)
    c.push_word-3.ensures
