use Rattle.lane_laws.proofs.LaneLaws.{forget_keeps}
use Rattle.lane_laws.proofs.laws.forget_keeps.Goals as goal

pub returns : goal.returns
returns c = forget_keeps
