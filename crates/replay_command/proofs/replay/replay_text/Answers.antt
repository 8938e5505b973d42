use Rattle.std.proofs.Common.{refl}
use Rattle.script_plan.specs.Scripts.{plan_in}
use Rattle.replay_command.proofs.replay.replay_text.Goals as goal

pub text_by-requires-clause-made : goal.text_by-requires-clause-made
text_by-requires-clause-made c = record { made = c.in_ok-cluster.ensures.made (plan_in c.args.script.now) refl; kept = c.in_ok-cluster.ensures.plan }
