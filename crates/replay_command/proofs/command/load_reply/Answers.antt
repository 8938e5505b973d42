use Rattle.std.proofs.Common.{◌∙◌, ap}
use Rattle.command_reply.specs.Output.{reply_done}
use Rattle.replay_command.proofs.TrueLogs.{load_is_true}
use Rattle.replay_command.proofs.command.load_reply.Goals as goal

pub returns : goal.returns
returns c = load_is_true c.args.seed c.args.frames c.done.result (c.done.ensures ∙ ap reply_done c.in_ok-load_text.ensures)
