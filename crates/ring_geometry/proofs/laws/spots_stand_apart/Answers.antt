use Rattle.ring_geometry.proofs.SpotLemmas.{spots_apart}
use Rattle.ring_geometry.proofs.laws.spots_stand_apart.Goals as goal

pub returns : goal.returns
returns c = spots_apart
