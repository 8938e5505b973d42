-- The lines of the sessions before the index are in the text.
use Rattle.std.proofs.Common.{◌≡◌, ◌++◌, map, take}
use Rattle.step_kinds.specs.Runs.{session_shown}
use Rattle.report_text.specs.Report.{sessions_lines}
use Rattle.report_text.proofs.run.push_run.Given as goal

abbrev pub invariant-loop-place : goal.invariant-loop-place
invariant-loop-place l = l.text.items ≡ l.initial.text.items ++ sessions_lines l.pairs l.lane.name 1 (map session_shown (take l.place l.sessions))
