use Rattle.lane_laws.proofs.LaneLaws.{look_sees}
use Rattle.lane_laws.proofs.laws.look_sees.Goals as goal

pub returns : goal.returns
returns c = look_sees
