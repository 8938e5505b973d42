use Rattle.fabric_rule.proofs.FreshPairs.{fresh_pair_stands}
use Rattle.fabric_rule.proofs.laws.fresh_pair_stands.Goals as goal

pub returns : goal.returns
returns c = fresh_pair_stands
