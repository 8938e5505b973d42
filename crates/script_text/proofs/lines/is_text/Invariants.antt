use Rattle.std.proofs.Common.{◌≡◌, ◌&&◌, drop}
use Rattle.script_words.specs.Words as spelled
use Rattle.script_text.proofs.lines.is_text.Given as goal

abbrev pub invariant-loop-byte : goal.invariant-loop-byte
invariant-loop-byte l = spelled.is_text l.line ≡ (l.is_text && spelled.is_text (drop l.byte-index l.line))
