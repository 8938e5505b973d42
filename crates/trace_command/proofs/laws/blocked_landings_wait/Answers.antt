use Rattle.trace_command.proofs.laws.blocked_landings_wait.Goals as goal
use Rattle.trace_command.proofs.BlockedWait.{blocked_landings_wait}

pub returns : goal.returns
returns c = blocked_landings_wait
