use Rattle.lane_laws.proofs.LaneLaws.{index_keeps}
use Rattle.lane_laws.proofs.laws.index_keeps.Goals as goal

pub returns : goal.returns
returns c = index_keeps
