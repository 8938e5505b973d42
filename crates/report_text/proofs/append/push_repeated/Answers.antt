use Rattle.std.proofs.Common.{append_assoc, arith}
use Rattle.report_text.proofs.Repeats.{repeat_by_blocks}
use Rattle.report_text.proofs.append.push_repeated.Goals as goal

pub returns : goal.returns
returns c = grind (arith, c.push_copies-4.ensures, c.in_ok-push_copies-2.ensures, c.in_ok-push_copies.ensures, c.clear.ensures.items, repeat_by_blocks c.args.count c.args.bytes.now, append_assoc)
