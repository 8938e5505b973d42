use Rattle.traffic_plan.proofs.Frames.{few_steps}
use Rattle.traffic_plan.proofs.laws.frame_has_few_steps.Goals as goal

pub returns : goal.returns
returns c = few_steps
