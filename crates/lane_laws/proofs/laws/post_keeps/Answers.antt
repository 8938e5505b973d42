use Rattle.lane_laws.proofs.LaneLaws.{post_keeps}
use Rattle.lane_laws.proofs.laws.post_keeps.Goals as goal

pub returns : goal.returns
returns c = post_keeps
