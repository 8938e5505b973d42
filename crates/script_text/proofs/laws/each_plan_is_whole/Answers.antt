use Rattle.script_text.proofs.Whole.{plan_is_whole}
use Rattle.script_text.proofs.laws.each_plan_is_whole.Goals as goal

pub returns : goal.returns
returns c = plan_is_whole
