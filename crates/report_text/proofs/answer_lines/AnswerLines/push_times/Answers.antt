use Rattle.std.proofs.Common.{append_assoc, append-nil, arith}
use Rattle.report_text.specs.Report.{answer_line}
use Rattle.report_text.proofs.Repeats.{lines_of_copies}
use Rattle.report_text.proofs.answer_lines.AnswerLines.push_times.Goals as goal

pub returns : goal.returns
returns c =
    grind (arith, c.push_repeated.ensures, c.in_ok-push_line.ensures.added, c.in_ok-push_line.ensures.none, c.in_ok-gather.ensures.added, c.clear.ensures.items, c.self.view_is, lines_of_copies answer_line c.args.count c.args.made.now, append_assoc, append-nil)
