-- The lines of the lanes before the index are in the text.
use Rattle.std.proofs.Common.{◌≡◌, ◌++◌, take}
use Rattle.std.specs.List.{flat_map}
use Rattle.report_text.specs.Report.{count_lines}
use Rattle.report_text.proofs.whole.push_lanes.Given as goal

abbrev pub invariant-loop-count : goal.invariant-loop-count
invariant-loop-count l = l.text.items ≡ l.initial.text.items ++ flat_map (count_lines l.pairs) (take l.count-index l.lanes)
