use Rattle.lane_laws.proofs.LaneLaws.{drop_keeps}
use Rattle.lane_laws.proofs.laws.drop_keeps.Goals as goal

pub returns : goal.returns
returns c = drop_keeps
