use Rattle.ledger_laws.proofs.LanePart.{lane_part_lands}
use Rattle.ledger_laws.proofs.laws.lane_part_lands.Goals as goal

pub returns : goal.returns
returns c = lane_part_lands
