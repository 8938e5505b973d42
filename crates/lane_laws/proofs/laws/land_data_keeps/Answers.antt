use Rattle.lane_laws.proofs.LaneLaws.{land_data_keeps}
use Rattle.lane_laws.proofs.laws.land_data_keeps.Goals as goal

pub returns : goal.returns
returns c = land_data_keeps
