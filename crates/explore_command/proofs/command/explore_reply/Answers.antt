use Rattle.script_text.proofs.Facade.{plan_is_whole}
use Rattle.explore_command.proofs.command.explore_reply.Goals as goal

pub exploration-requires : goal.exploration-requires
exploration-requires c = plan_is_whole c.args.bytes.now c.in-Ok.plan c.in-Ok.ensures
