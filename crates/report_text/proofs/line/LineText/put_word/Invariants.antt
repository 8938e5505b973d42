-- The bytes of the word before the index stand at their places.
use Rattle.std.proofs.Common.{◌≡◌}
use Rattle.std.proofs.Math.Seq.{paste}
use Rattle.report_text.proofs.line.LineText.put_word.Given as goal

abbrev pub invariant-loop-place : goal.invariant-loop-place
invariant-loop-place g l = l.self-inside.bytes ≡ paste l.initial.self-inside.bytes l.end l.word l.place
