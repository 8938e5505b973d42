use Rattle.std.proofs.Common.{◌≡◌, ◌∙◌, ◌++◌, [], ℕ, List, ap, sym}
use Rattle.ledger_model.specs.Log.{Answered}
use Rattle.script_plan.specs.Scripts.{plan_in}
use Rattle.ledger_model.specs.PlanLog.{log_of_plan}
use Rattle.replay_command.specs.Replays.{answers_text}
use Rattle.cluster_core.proofs.Facade.{steps_permitted}
use Rattle.replay_command.proofs.Reports.{answers_kept, replay_text_is}
use Rattle.replay_command.proofs.replay.text_by.Goals as goal

pub make_steps-requires : goal.make_steps-requires
make_steps-requires c =
    let script = c.args.script.now in
    steps_permitted (plan_in script) _ script.steps c.requires.made.kept c.requires.whole.steps

pub push_counts-requires-clause-made : goal.push_counts-requires-clause-made
push_counts-requires-clause-made c =
    let script = c.args.script.now in (c.in_ok-make_steps.ensures.kept (plan_in script) [] c.requires.made).replayed

pub returns : goal.returns
returns c =
    let script = c.args.script.now in
    let plan = plan_in script in
    let made = c.in_ok-make_steps.ensures.kept plan [] c.requires.made in
    let answers : List Answered = made.answers in
    let text : c.in_ok-text.text.items ≡ answers_text script.steps (log_of_plan plan) =
    c.in_ok-text.ensures ∙ c.report.view_is ∙ made.kept ∙ answers_kept script.steps answers c.new.result
    ∙ ap (λ (before : List ℕ). before ++ answers_text script.steps answers) c.new.ensures
    ∙ ap (answers_text script.steps) (sym made.log) in
    replay_text_is plan _ _ text c.in_ok-push_counts.ensures
