use Rattle.std.proofs.Common.{map}
use Rattle.fabric_core.specs.Sessions.{count_seen}
use Rattle.fabric_core.proofs.SameParts.{SameBefore}
use Rattle.fabric_core.proofs.counts.SessionCounts.is_in.Given as goal

abbrev pub invariant-loop-one : goal.invariant-loop-one
invariant-loop-one l = SameBefore (map count_seen l.one-items) l.other.counts l.one-index
