use Rattle.bridge_pair.proofs.SameBridges.{end_a, end_b, same_ends}
use Rattle.bridge_pair.proofs.pair.Pair.has_same_ends.Goals as goal

pub returns-then-is_same : goal.returns-then-is_same
returns-then-is_same c = (
  λ yes. same_ends c.self.inside c.other.inside c.args.self.now c.args.other.now c.self.view_is c.other.view_is (c.is_same.ensures.0 c.if-is_same.true) (c.is_same-then-is_same.ensures.0 yes),
  λ same. c.is_same-then-is_same.ensures.1 (end_b c.self.inside c.other.inside c.args.self.now c.args.other.now c.self.view_is c.other.view_is same),
)

pub returns-else-is_same : goal.returns-else-is_same
returns-else-is_same c = (
  λ yes. absurd (cc (yes, c.if-is_same.false)),
  λ same. c.is_same.ensures.1 (end_a c.self.inside c.other.inside c.args.self.now c.args.other.now c.self.view_is c.other.view_is same),
)
