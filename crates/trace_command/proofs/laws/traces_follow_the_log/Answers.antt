use Rattle.trace_command.proofs.laws.traces_follow_the_log.Goals as goal
use Rattle.trace_command.proofs.TracesFollow.{traces_follow_the_log}

pub returns : goal.returns
returns c = traces_follow_the_log
