use Rattle.std.proofs.Common.{◌≡◌}
use Rattle.script_words.specs.TrafficLines.{flood_frame}
use Rattle.script_plan.proofs.traffic.flood_frame.Given as goal

abbrev pub invariant-loop-j : goal.invariant-loop-j
invariant-loop-j l = l.bytes.items ≡ flood_frame l.j l.i
