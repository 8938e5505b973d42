use Rattle.std.proofs.Common.{◌≡◌, ◌++◌, ◌≤◌, map, drop}
use Rattle.script_words.specs.Words as spelled
use Rattle.script_text.proofs.Splits.{words_from}
use Rattle.script_text.proofs.lines.read_short.Given as goal

abbrev pub invariant-loop-i : goal.invariant-loop-i
invariant-loop-i l = record {
  begins : l.start ≤ l.i;
  text : spelled.is_text l.line ≡ spelled.is_text (drop l.i l.line);
  words : spelled.words_of l.line ≡ map (λ word. word.now) l.words.items ++ words_from l.line l.start l.i;
}
