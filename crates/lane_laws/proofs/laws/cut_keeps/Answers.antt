use Rattle.lane_laws.proofs.LaneLaws.{cut_keeps}
use Rattle.lane_laws.proofs.laws.cut_keeps.Goals as goal

pub returns : goal.returns
returns c = cut_keeps
