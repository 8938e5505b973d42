use Rattle.lane_laws.proofs.LaneLaws.{each_has_one_owner}
use Rattle.lane_laws.proofs.laws.each_has_one_owner.Goals as goal

pub returns : goal.returns
returns c = each_has_one_owner
