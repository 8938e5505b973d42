use Rattle.lane_laws.proofs.LaneLaws.{nothing_left}
use Rattle.lane_laws.proofs.laws.nothing_left.Goals as goal

pub returns : goal.returns
returns c = nothing_left
