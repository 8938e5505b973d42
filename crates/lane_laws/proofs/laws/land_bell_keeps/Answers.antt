use Rattle.lane_laws.proofs.LaneLaws.{land_bell_keeps}
use Rattle.lane_laws.proofs.laws.land_bell_keeps.Goals as goal

pub returns : goal.returns
returns c = land_bell_keeps
