use Rattle.std.proofs.Common.{append_assoc}
use Rattle.std.proofs.lemmas.Result.{IfOk-equal}
use Rattle.trace_command.proofs.lines.push_dropped.Goals as goal

pub returns : goal.returns
returns c =
    IfOk-equal c.push_word-3.result _ _ _ c.push_word-3.ensures
    (rw (c.in_ok-push_numbers_in-2.ensures, c.in_ok-push_word-2.ensures, c.in_ok-push_numbers_in.ensures, c.in_ok-push_word.ensures, c.side.ensures, c.side-2.ensures) (simp append_assoc))
