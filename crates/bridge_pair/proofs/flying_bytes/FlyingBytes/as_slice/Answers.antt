use Rattle.std.proofs.Common.{subst}
use Rattle.bridge_pair.specs.FlyingBytes.{Fit}
use Rattle.bridge_pair.proofs.flying_bytes.FlyingBytes.as_slice.Goals as goal

pub shared_ref_as_front-result : goal.shared_ref_as_front-result
shared_ref_as_front-result c = subst (Fit c.self.inside.len) c.in-Few.is c.self.invariant

pub shared_ref_as_front-result-in-Many : goal.shared_ref_as_front-result-in-Many
shared_ref_as_front-result-in-Many c = subst (Fit c.self.inside.len) c.in-Many.is c.self.invariant
