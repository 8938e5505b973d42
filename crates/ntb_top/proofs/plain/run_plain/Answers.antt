use Rattle.ntb_top.proofs.RunOutcomes.{run_answered}
use Rattle.ntb_top.proofs.plain.run_plain.Goals as goal

pub returns-in-Ok : goal.returns-in-Ok
returns-in-Ok g c = run_answered _ _ _ _ c.in-Ok.reply _ c.in-Ok.ensures c.write_reply.ensures
