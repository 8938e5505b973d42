use Rattle.ledger_laws.proofs.LanesBegin.{each_lane_begins_fresh}
use Rattle.ledger_laws.proofs.laws.each_lane_begins_fresh.Goals as goal

pub returns : goal.returns
returns c = each_lane_begins_fresh
