use Rattle.std.proofs.Common.{◌≡◌, ◌++◌, ◌+◌, ◌≤◌, ◌-◌, replicate, vec_len, vec_capacity}
use Rattle.step_list.specs.Compact.{step_again, lines_with}
use Rattle.step_list.proofs.step_list.push_again.Given as goal

abbrev pub invariant-loop : goal.invariant-loop
invariant-loop l = record {
  items : l.lines.items ≡ l.fn.lines.items ++ lines_with l.line (replicate l.counter (step_again l.repeated));
  room : vec_len l.lines + (l.count - l.counter) ≤ vec_capacity l.lines;
}
