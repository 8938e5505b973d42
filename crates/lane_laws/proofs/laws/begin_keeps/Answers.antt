use Rattle.lane_laws.proofs.LaneLaws.{begin_keeps}
use Rattle.lane_laws.proofs.laws.begin_keeps.Goals as goal

pub returns : goal.returns
returns c = begin_keeps
