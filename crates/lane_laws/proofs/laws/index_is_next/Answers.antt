use Rattle.lane_laws.proofs.LaneLaws.{index_is_next}
use Rattle.lane_laws.proofs.laws.index_is_next.Goals as goal

pub returns : goal.returns
returns c = index_is_next
