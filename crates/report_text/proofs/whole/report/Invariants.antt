-- The lines of the answers before the index are there.
use Rattle.std.proofs.Common.{◌≡◌, take}
use Rattle.std.specs.List.{flat_map}
use Rattle.report_text.specs.Report.{answer_line}
use Rattle.report_text.proofs.whole.report.Given as goal

abbrev pub invariant-loop-made : goal.invariant-loop-made
invariant-loop-made l = l.answers ≡ flat_map answer_line (take l.made-index l.lines)
