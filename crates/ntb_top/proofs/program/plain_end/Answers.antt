use Rattle.ntb_top.proofs.Endings.{plain_ended}
use Rattle.ntb_top.proofs.program.plain_end.Goals as goal

pub returns : goal.returns
returns g c = plain_ended c.args.command _ _ _ _ _ c.run_plain.ensures c.alone.ensures.status c.alone.ensures.alone
