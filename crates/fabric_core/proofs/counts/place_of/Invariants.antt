use Rattle.std.proofs.Common.{map}
use Rattle.fabric_core.specs.Sessions.{IsNowhere, count_seen}
use Rattle.fabric_core.proofs.counts.place_of.Given as goal

abbrev pub invariant-loop-place : goal.invariant-loop-place
invariant-loop-place l = IsNowhere (map count_seen l.counts) l.session l.place
