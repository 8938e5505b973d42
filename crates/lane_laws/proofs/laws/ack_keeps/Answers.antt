use Rattle.lane_laws.proofs.LaneLaws.{ack_keeps}
use Rattle.lane_laws.proofs.laws.ack_keeps.Goals as goal

pub returns : goal.returns
returns c = ack_keeps
