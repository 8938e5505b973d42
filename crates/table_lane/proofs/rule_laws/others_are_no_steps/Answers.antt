use Rattle.table_lane.proofs.SplitsAndJoins.{splits_are_no_steps, joins_are_no_steps}
use Rattle.table_lane.proofs.rule_laws.others_are_no_steps.Goals as goal

-- a split of a seat is no step of the lane
pub returns-clause-splits : goal.returns-clause-splits
returns-clause-splits c = splits_are_no_steps

-- a join of two seats is no step of the lane
pub returns-clause-joins : goal.returns-clause-joins
returns-clause-joins c = joins_are_no_steps
