use Rattle.std.proofs.Common.{◌≡◌, take}
use Rattle.cluster_core.proofs.cluster.are_same_switches.Given as goal

abbrev pub invariant-loop-number : goal.invariant-loop-number
invariant-loop-number l = take l.number l.switches ≡ take l.number l.others
