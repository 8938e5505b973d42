use Rattle.script_text.proofs.CutInput.{plan_cut}
use Rattle.script_text.proofs.laws.cut_plan.Goals as goal

pub returns : goal.returns
returns c = plan_cut c.args.bytes.now c.args.end c.requires.plan c.requires.some c.requires.within c.requires.line_feed
