use Rattle.std.proofs.Common.{◌≡◌, ◌++◌}
use Rattle.script_words.specs.Compact.{flood_of}
use Rattle.script_plan.proofs.traffic.TrafficList.push_flood.Given as goal

abbrev pub invariant-loop-i : goal.invariant-loop-i
invariant-loop-i l = l.self ≡ l.initial.self ++ flood_of l.lane l.i l.len
