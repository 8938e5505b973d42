use Rattle.lane_laws.proofs.LaneLaws.{fresh_holds}
use Rattle.lane_laws.proofs.laws.fresh_holds.Goals as goal

pub returns : goal.returns
returns c = fresh_holds
