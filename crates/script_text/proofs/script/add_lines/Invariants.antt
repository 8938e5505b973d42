use Rattle.std.proofs.Common.{◌≡◌, ◌+◌, ◌≤◌, [], length}
use Rattle.std.specs.Option.{option_map_or}
use Rattle.script_words.specs.Words.{lines_of}
use Rattle.script_text.specs.SoundLines.{Held}
use Rattle.script_text.specs.Script.{read_lines}
use Rattle.script_text.proofs.script.add_lines.Given as goal

abbrev pub invariant-loop-rest : goal.invariant-loop-rest
invariant-loop-rest l = record {
  read : read_lines 1 l.fn.before (lines_of l.bytes) ≡ read_lines l.number l.before (option_map_or (λ text. lines_of text.now) l.rest []);
  held : Held l.before;
  counted : l.number + option_map_or (λ text. length text.now + 1) l.rest 0 ≤ length l.bytes + 2;
}

abbrev pub decreases-loop-rest : goal.decreases-loop-rest
decreases-loop-rest l = option_map_or (λ text. length text.now + 1) l.rest 0
