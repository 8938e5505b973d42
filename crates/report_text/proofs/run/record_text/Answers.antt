use Rattle.std.proofs.Common.{rules, ◌++◌, ap, ◌∙◌, sym}
use Rattle.std.specs.Prelude.{codes}
use Rattle.report_text.proofs.Runs.{runs_shown}
use Rattle.report_text.specs.Report.{run_lines, end_line}
use Rattle.report_text.proofs.run.record_text.Goals as goal

pub returns : goal.returns
returns c =
    let shown = runs_shown (run_lines c.args.plan.now.pairs) c.args.run.now.lanes in
    c.in_ok-push_word.ensures ∙ ap (λ t. t ++ codes "end\n") (c.in_ok-push_runs.ensures ∙ search rules) ∙ ap (λ t. t ++ end_line) (sym shown)
