use Rattle.lane_laws.proofs.LaneLaws.{copy_sees}
use Rattle.lane_laws.proofs.laws.copy_sees.Goals as goal

pub returns : goal.returns
returns c = copy_sees
