use Rattle.std.proofs.Common.{◌≡◌, drop}
use Rattle.script_words.specs.Words as spelled
use Rattle.script_text.proofs.lines.is_skipped.Given as goal

abbrev pub invariant-loop-byte : goal.invariant-loop-byte
invariant-loop-byte l = spelled.is_skipped l.line ≡ spelled.is_skipped (drop l.byte-index l.line)
