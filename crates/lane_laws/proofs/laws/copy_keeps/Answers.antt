use Rattle.lane_laws.proofs.LaneLaws.{copy_keeps}
use Rattle.lane_laws.proofs.laws.copy_keeps.Goals as goal

pub returns : goal.returns
returns c = copy_keeps
