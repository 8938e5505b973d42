use Rattle.std.proofs.Common.{rules, ◌++◌, ap, ◌∙◌, sym}
use Rattle.report_text.specs.Report.{end_line}
use Rattle.traffic_command.proofs.WholeStreams.{lines_shown}
use Rattle.traffic_command.proofs.text.streams_text.Goals as goal

pub returns : goal.returns
returns c =
    let shown = lines_shown c.args.plan.now.pairs c.args.streams.now.lanes in
    c.in_ok-push_word.ensures ∙ ap (λ t. t ++ end_line) (c.in_ok-push_streams.ensures ∙ search rules ∙ sym shown)
