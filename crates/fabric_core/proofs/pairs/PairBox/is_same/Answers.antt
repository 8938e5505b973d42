use Rattle.std.proofs.Common.{sym}
use Rattle.bridge_pair.specs.Same.{IsSameBridge}
use Rattle.fabric_core.specs.PairBoxes.{pair_seen}
use Rattle.fabric_core.proofs.SameParts.{bridges_seen, same_by_plain, same_pair_of}
use Rattle.fabric_core.proofs.pairs.PairBox.is_same.Goals as goal

pub returns-then-is_same : goal.returns-then-is_same
returns-then-is_same c = (
  λ yes. same_pair_of c.args.self.now c.args.other.now c.requires
      (bridges_seen IsSameBridge (pair_seen c.self.inside) (pair_seen c.other.inside) c.args.self.now c.args.other.now c.self.view_is c.other.view_is (c.is_same.ensures.0 c.if-is_same.true))
      (c.has_same_queues.ensures.0 yes),
  λ same. c.has_same_queues.ensures.1 same.queues,
)

pub returns-else-is_same : goal.returns-else-is_same
returns-else-is_same c = (
  λ yes. absurd (cc (yes, c.if-is_same.false)),
  λ same. c.is_same.ensures.1
      (bridges_seen IsSameBridge c.args.self.now c.args.other.now (pair_seen c.self.inside) (pair_seen c.other.inside) (sym c.self.view_is) (sym c.other.view_is)
      (same_by_plain c.args.self.now.bridge c.args.other.now.bridge same.bridge)),
)
