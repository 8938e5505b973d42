use Rattle.lane_laws.proofs.LaneLaws.{flag_is_next}
use Rattle.lane_laws.proofs.laws.flag_is_next.Goals as goal

pub returns : goal.returns
returns c = flag_is_next
