use Rattle.std.proofs.Common.{◌≡◌, ◌+◌, ◌≤◌, length}
use Rattle.std.specs.Option.{option_map_or}
use Rattle.script_words.specs.Reads.{result_map}
use Rattle.reads_command.specs.Lines.{reads_steps_of}
use Rattle.read_path.specs.Path.{fresh_path}
use Rattle.reads_command.specs.Report.{made_lines}
use Rattle.reads_command.specs.Replies.{reply_seen}
use Rattle.reads_command.proofs.ReplyLemmas.{lines_left, text_left}
use Rattle.reads_command.proofs.reply.reads_text.Given as goal

abbrev pub invariant-loop-rest : goal.invariant-loop-rest
invariant-loop-rest l = record {
  read : result_map (made_lines fresh_path) (reads_steps_of l.bytes) ≡ lines_left (reply_seen l.reply) l.number (text_left l.rest);
  few : l.reply.steps ≤ 1000000;
  counted : l.number + option_map_or (λ text. length text.now + 1) l.rest 0 ≤ length l.bytes + 2;
}

abbrev pub decreases-loop-rest : goal.decreases-loop-rest
decreases-loop-rest l = option_map_or (λ text. length text.now + 1) l.rest 0
