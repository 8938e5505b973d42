use Rattle.std.proofs.Common.{ap}
use Rattle.script_text.proofs.Facade.{plan_is_whole}
use Rattle.script_text.specs.Script.{plan_of}
use Rattle.ntb_top.proofs.check.check_reply.Goals as goal

pub counts_of-requires : goal.counts_of-requires
counts_of-requires c = plan_is_whole c.args.bytes.now c.in-Ok.declared.plan (ap plan_of c.in-Ok.ensures)
