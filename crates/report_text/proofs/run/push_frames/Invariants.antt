-- The lines of the frames before the index are in the text.
use Rattle.std.proofs.Common.{◌≡◌, ◌++◌, take}
use Rattle.report_text.specs.Report.{frame_lines}
use Rattle.report_text.proofs.run.push_frames.Given as goal

abbrev pub invariant-loop-place : goal.invariant-loop-place
invariant-loop-place l = l.text.items ≡ l.initial.text.items ++ frame_lines l.word l.first (take l.place l.frames.frames)
