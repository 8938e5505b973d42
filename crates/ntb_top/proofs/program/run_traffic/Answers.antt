use Rattle.ntb_top.proofs.Endings.{run_ended}
use Rattle.ntb_top.proofs.program.run_traffic.Goals as goal

pub returns-in-Ok : goal.returns-in-Ok
returns-in-Ok g c = run_ended _ _ c.in-Ok.run' _ _ c.in-Ok.ensures c.written.ensures.text c.written.ensures.told c.written.ensures.alone
