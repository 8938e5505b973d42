use Rattle.std.proofs.Common.{◌≡◌, ◌∙◌, ap, sym}
use Rattle.std.proofs.lemmas.Result.{IfOk-weaker}
use Rattle.command_reply.specs.Output.{Output, reply_done}
use Rattle.script_plan.specs.Scripts.{plan_in}
use Rattle.script_text.proofs.Facade.{plan_is_whole}
use Rattle.replay_command.specs.Answers.{IsReplayOf, replayed}
use Rattle.replay_command.specs.Replays.{replay_text}
use Rattle.replay_command.proofs.TrueLogs.{replay_is_true}
use Rattle.replay_command.proofs.command.replay_reply.Goals as goal

pub report-requires : goal.report-requires
report-requires c = plan_is_whole c.args.bytes.now (plan_in c.in-Ok.script) c.in-Ok.ensures

pub returns-in-Ok : goal.returns-in-Ok
returns-in-Ok c =
    IfOk-weaker c.report.result (λ (output : Output). output ≡ reply_done (replay_text (plan_in c.in-Ok.script))) (λ (output : Output). IsReplayOf c.args.bytes.now output)
    (λ (output : Output) is. replay_is_true c.args.bytes.now output (is ∙ ap replayed (sym c.in-Ok.ensures))) c.report.ensures
