-- The lines of the lanes before the index are in the text.
use Rattle.std.proofs.Common.{◌≡◌, ◌++◌, take}
use Rattle.std.specs.List.{flat_map}
use Rattle.step_kinds.specs.Runs.{lane_shown}
use Rattle.report_text.specs.Report.{run_lines}
use Rattle.report_text.proofs.run.push_runs.Given as goal

abbrev pub invariant-loop-lane : goal.invariant-loop-lane
invariant-loop-lane l = l.text.items ≡ l.initial.text.items ++ flat_map (λ lane. run_lines l.pairs (lane_shown lane)) (take l.lane-index l.lanes)
