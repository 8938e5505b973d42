use Rattle.lane_laws.proofs.LaneLaws.{data_is_ahead}
use Rattle.lane_laws.proofs.laws.data_is_ahead.Goals as goal

pub returns : goal.returns
returns c = data_is_ahead
