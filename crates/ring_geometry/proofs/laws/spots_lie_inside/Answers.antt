use Rattle.ring_geometry.proofs.SpotLemmas.{spot_inside}
use Rattle.ring_geometry.proofs.laws.spots_lie_inside.Goals as goal

pub returns : goal.returns
returns c = spot_inside
