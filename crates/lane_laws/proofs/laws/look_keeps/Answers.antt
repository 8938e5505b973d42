use Rattle.lane_laws.proofs.LaneLaws.{look_keeps}
use Rattle.lane_laws.proofs.laws.look_keeps.Goals as goal

pub returns : goal.returns
returns c = look_keeps
