use Rattle.lane_laws.proofs.LaneLaws.{clear_keeps}
use Rattle.lane_laws.proofs.laws.clear_keeps.Goals as goal

pub returns : goal.returns
returns c = clear_keeps
