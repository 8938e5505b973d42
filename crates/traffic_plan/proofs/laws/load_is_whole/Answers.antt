use Rattle.traffic_plan.proofs.Whole.{load_is_whole}
use Rattle.traffic_plan.proofs.laws.load_is_whole.Goals as goal

pub returns : goal.returns
returns c = load_is_whole
