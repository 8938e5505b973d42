use Rattle.std.proofs.Common.{sym}
use Rattle.fabric_core.proofs.SameParts.{same_both_ways}
use Rattle.fabric_core.proofs.counts.SessionCounts.is_same.Goals as goal

pub returns-then-is_in : goal.returns-then-is_in
returns-then-is_in c = (
  λ yes. same_both_ways c.args.self.now.counts c.args.other.now.counts (c.is_in.ensures.0 c.if-is_in.true) (c.is_in-then-is_in.ensures.0 yes),
  λ same. c.is_in-then-is_in.ensures.1 (λ k below. sym (same _)),
)
