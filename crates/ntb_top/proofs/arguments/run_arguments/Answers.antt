use Rattle.std.proofs.Common.{◌∙◌}
use Rattle.ntb_top.proofs.Endings.{nothing_ended}
use Rattle.ntb_top.proofs.arguments.run_arguments.Goals as goal

pub returns-in-Err-clause-run : goal.returns-in-Err-clause-run
returns-in-Err-clause-run g c = nothing_ended _ _ _ _ (c.alone.ensures.status ∙ c.number.ensures) c.alone.ensures.alone
