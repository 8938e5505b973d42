use Rattle.std.proofs.Common.{◌≡◌, ◌∙◌, ◌++◌, [], List, refl, ap, sym}
use Rattle.ledger_model.specs.Log.{Answered}
use Rattle.step_kinds.specs.AnsweredSteps.{AnsweredStep}
use Rattle.ledger_model.specs.PlanLog.{answered_steps, log_of_plan}
use Rattle.trace_command.specs.Lines.{step_lines}
use Rattle.trace_command.specs.Writes.{writes_start}
use Rattle.trace_command.specs.Head.{trace_head}
use Rattle.trace_command.specs.Trace.{Traced}
use Rattle.trace_command.proofs.Traces.{lines_kept}
use Rattle.trace_command.proofs.WholeTraces.{trace_is}
use Rattle.script_plan.specs.Scripts.{plan_in}
use Rattle.cluster_core.proofs.Facade.{steps_permitted}
use Rattle.trace_command.proofs.trace.text_by.Goals as goal

pub make_steps-requires : goal.make_steps-requires
make_steps-requires c =
    let script = c.args.script.now in
    steps_permitted (plan_in script) _ script.steps c.requires.made.kept c.requires.whole.steps

pub push_counts-requires-clause-made : goal.push_counts-requires-clause-made
push_counts-requires-clause-made c =
    let script = c.args.script.now in (c.in_ok-make_steps.ensures.kept (plan_in script) [] c.requires.made).replayed

pub returns : goal.returns
returns c =
    let script = c.args.script.now in
    let plan = plan_in script in
    let made = c.in_ok-make_steps.ensures.kept plan [] c.requires.made in
    let answered : List Answered → List AnsweredStep = answered_steps script.steps in
    let text : c.lines.inside.text.items ≡ trace_head script.declared.pairs ++ step_lines script.declared (writes_start script.declared.pairs) (answered (log_of_plan plan)) =
    ap (λ (traced : Traced). traced.text) (c.lines.view_is ∙ made.kept) ∙ lines_kept (answered made.answers) c.in_ok-lines.lines
    ∙ ap (λ (start : Traced). start.text ++ step_lines start.plan start.writes (answered made.answers)) c.in_ok-lines.ensures
    ∙ ap (λ (log : List Answered). trace_head script.declared.pairs ++ step_lines script.declared (writes_start script.declared.pairs) (answered log)) (sym made.log) in
    trace_is script.declared script.steps _ _ _ _ text refl refl c.in_ok-push_counts.ensures
