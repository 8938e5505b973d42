use Rattle.table_lane.proofs.ReceiverShows.{looks}
use Rattle.table_lane.proofs.rule_laws.receiver_steps_are_of_the_lane.Goals as goal

-- the receiver's look is its step of the lane
pub returns-clause-looks : goal.returns-clause-looks
returns-clause-looks c = looks
