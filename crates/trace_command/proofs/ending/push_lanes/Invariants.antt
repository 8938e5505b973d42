-- The lines of the counts before the index are in the text.
use Rattle.std.proofs.Common.{◌≡◌, ◌++◌, take}
use Rattle.trace_command.specs.Lines.{trace_lane_lines}
use Rattle.trace_command.proofs.ending.push_lanes.Given as goal

abbrev pub invariant-loop-count : goal.invariant-loop-count
invariant-loop-count l = l.text.items ≡ l.initial.text.items ++ trace_lane_lines l.pairs (take l.count-index l.counts)
