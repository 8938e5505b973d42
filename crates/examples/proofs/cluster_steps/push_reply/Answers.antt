use Rattle.script_text.proofs.Facade.{plan_is_whole}
use Rattle.examples.proofs.cluster_steps.push_reply.Goals as goal

pub push_answers-requires : goal.push_answers-requires
push_answers-requires c = plan_is_whole c.args.script.now c.in-Ok.plan c.in-Ok.ensures
