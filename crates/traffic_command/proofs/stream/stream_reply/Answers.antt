use Rattle.script_plan.specs.Scripts.{plan_in}
use Rattle.script_text.proofs.Facade.{plan_is_whole}
use Rattle.traffic_command.proofs.stream.stream_reply.Goals as goal

pub stream_script-requires-clause-whole : goal.stream_script-requires-clause-whole
stream_script-requires-clause-whole g c κs within = plan_is_whole c.args.bytes.now (plan_in c.in-Ok.script) c.in-Ok.ensures
