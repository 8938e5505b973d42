use Rattle.std.proofs.Common.{◌∙◌, ap}
use Rattle.command_reply.specs.Output.{reply_done}
use Rattle.replay_command.proofs.command.report.Goals as goal

pub returns : goal.returns
returns c = c.done.ensures ∙ ap reply_done c.in_ok-replay_text.ensures
