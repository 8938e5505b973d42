use Rattle.ring_geometry.proofs.Areas.{areas_apart}
use Rattle.ring_geometry.proofs.laws.areas_stand_apart.Goals as goal

pub returns : goal.returns
returns c = areas_apart
