use Rattle.fabric_rule.proofs.EachStep.{each_step_stands}
use Rattle.fabric_rule.proofs.laws.each_step_stands.Goals as goal

pub returns : goal.returns
returns c = each_step_stands
