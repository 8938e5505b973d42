use Rattle.std.proofs.Common.{append_assoc}
use Rattle.std.proofs.lemmas.Result.{IfOk-equal}
use Rattle.trace_command.specs.Steps.{ethernet_members}
use Rattle.trace_command.proofs.steps.push_ethernet.Goals as goal

pub returns : goal.returns
unfolding ethernet_members
returns c =
    IfOk-equal c.push_bytes_member-2.result _ _ _ c.push_bytes_member-2.ensures
    (rw (c.in_ok-push_number_member.ensures, c.in_ok-push_bytes_member.ensures, c.from.ensures, c.bytes.ensures.value) (simp append_assoc))
