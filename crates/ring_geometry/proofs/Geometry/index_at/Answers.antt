use Rattle.std.proofs.Common.{arith, ap}
use Rattle.ring_geometry.specs.Geometry.{Layout}
use Rattle.ring_geometry.proofs.Within.{kept_area_within}
use Rattle.ring_geometry.proofs.Geometry.index_at.Goals as goal

pub returns-clause-within : goal.returns-clause-within
returns-clause-within c =
    let within = kept_area_within c.self.inside c.self.invariant in
    let same_window = ap (λ (l : Layout). l.window) c.self.view_is in
    let index = c.self.invariant.placed.ring.index_fits in
    omega arith
