use Rattle.std.proofs.Common.{◌∙◌, ap, sym}
use Rattle.command_reply.specs.Output.{reply_done}
use Rattle.script_plan.specs.Scripts.{plan_in}
use Rattle.script_text.proofs.Facade.{plan_is_whole}
use Rattle.trace_command.specs.Answers.{traced}
use Rattle.trace_command.proofs.TrueTraces.{trace_is_true}
use Rattle.trace_command.proofs.command.trace_reply.Goals as goal

pub trace_text-requires : goal.trace_text-requires
trace_text-requires c = plan_is_whole c.args.bytes.now (plan_in c.in-Ok.script) c.in-Ok.ensures

pub returns-in_ok-trace_text-in-Ok : goal.returns-in_ok-trace_text-in-Ok
returns-in_ok-trace_text-in-Ok c =
    trace_is_true c.args.bytes.now c.done.result (c.done.ensures ∙ ap reply_done c.in_ok-trace_text-in-Ok.ensures ∙ ap traced (sym c.in-Ok.ensures))
