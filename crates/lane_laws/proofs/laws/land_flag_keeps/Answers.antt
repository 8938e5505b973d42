use Rattle.lane_laws.proofs.LaneLaws.{land_flag_keeps}
use Rattle.lane_laws.proofs.laws.land_flag_keeps.Goals as goal

pub returns : goal.returns
returns c = land_flag_keeps
