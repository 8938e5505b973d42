use Rattle.std.proofs.Common.{◌≡◌, ◌++◌, length}
use Rattle.cluster_run.proofs.session.trimmed.Given as goal

abbrev pub invariant-loop-frame : goal.invariant-loop-frame
invariant-loop-frame l = (l.own.frames ++ l.list.frames ≡ l.fn.list.frames) × (l.own.spare ≡ length l.list.frames)

abbrev pub decreases-loop-frame : goal.decreases-loop-frame
decreases-loop-frame l = length l.list.frames
