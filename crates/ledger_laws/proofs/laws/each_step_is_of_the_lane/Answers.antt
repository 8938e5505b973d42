use Rattle.ledger_laws.proofs.StepsOfLane.{each_step_is_of_the_lane}
use Rattle.ledger_laws.proofs.laws.each_step_is_of_the_lane.Goals as goal

pub returns : goal.returns
returns c = each_step_is_of_the_lane
