use Rattle.std.proofs.Common.{append_assoc}
use Rattle.std.proofs.lemmas.Result.{IfOk-equal}
use Rattle.trace_command.specs.Lines.{count_members}
use Rattle.trace_command.proofs.ending.push_counts.Goals as goal

pub returns : goal.returns
unfolding count_members
returns c =
    IfOk-equal c.push_number_member-3.result _ _ _ c.push_number_member-3.ensures
    (rw (c.in_ok-push_number_member-2.ensures, c.in_ok-push_number_member.ensures, c.from.ensures) (simp append_assoc))
