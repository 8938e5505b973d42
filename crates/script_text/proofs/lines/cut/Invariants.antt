use Rattle.std.proofs.Common.{◌≡◌, ◌==◌, take, drop}
use Rattle.std.specs.List.{slice_split}
use Rattle.script_text.proofs.Splits.{with_front}
use Rattle.script_text.proofs.lines.cut.Given as goal

abbrev pub invariant-loop-i : goal.invariant-loop-i
invariant-loop-i l = slice_split (λ b. b == l.at) l.text ≡ with_front (take l.i l.text) (slice_split (λ b. b == l.at) (drop l.i l.text))
