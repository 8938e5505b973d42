use Rattle.trace_command.proofs.LinesAreTrue.{traces_are_true}
use Rattle.trace_command.proofs.laws.traces_are_true.Goals as goal

pub returns : goal.returns
returns c = traces_are_true
