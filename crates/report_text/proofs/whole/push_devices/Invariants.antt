-- The lines of the devices before the index are in the text.
use Rattle.std.proofs.Common.{◌≡◌, ◌++◌, take}
use Rattle.report_text.specs.Report.{device_lines}
use Rattle.report_text.proofs.whole.push_devices.Given as goal

abbrev pub invariant-loop-place : goal.invariant-loop-place
invariant-loop-place l = l.text.items ≡ l.initial.text.items ++ device_lines (take l.place l.devs) (take l.place l.counters)
