-- The line stands apart, and this many of it are in the text; the numbers of the writes stay.
use Rattle.std.proofs.Common.{◌≡◌, replicate}
use Rattle.std.specs.List.{fold}
use Rattle.trace_command.specs.Lines.{trace_step_line}
use Rattle.trace_command.specs.Trace.{with_line}
use Rattle.trace_command.proofs.trace.TraceLinesKeepsAnswers.keep_times.Given as goal

abbrev pub invariant-loop : goal.invariant-loop
invariant-loop l = record {
  plan : l.self-inside.plan.now ≡ l.fn.self.plan;
  writes : l.self-inside.writes ≡ l.fn.self.writes;
  line : l.self-inside.line.items ≡ trace_step_line l.fn.self.plan l.fn.self.writes l.step l.made;
  text : l.self-inside.text.items ≡ (fold with_line l.fn.self (replicate l.counter (record { step = l.step; made = l.made }))).text;
}
