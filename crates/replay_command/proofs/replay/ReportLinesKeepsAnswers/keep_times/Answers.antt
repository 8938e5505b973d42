use Rattle.std.proofs.Common.{◌∙◌, ◌++◌, ℕ, List, ap, replicate}
use Rattle.std.specs.List.{flat_map}
use Rattle.std.proofs.lemmas.Result.{on_ok_weaker}
use Rattle.step_kinds.specs.AnsweredSteps.{AnsweredStep}
use Rattle.report_text.specs.Report.{answer_line}
use Rattle.replay_command.proofs.Reports.{lines_again}
use Rattle.replay_command.proofs.replay.ReportLinesKeepsAnswers.keep_times.Goals as goal

pub returns : goal.returns
returns c =
    let answered : AnsweredStep = record { step = c.args._step.now; made = c.args.made.now } in
    on_ok_weaker c.push_times.result
    (λ is.
    is ∙ ap (λ (text : List ℕ). text ++ flat_map answer_line (replicate c.args.count answered.made)) c.self.view_is
    ∙ lines_again c.args.count answered c.args.self.now)
    c.push_times.ensures
