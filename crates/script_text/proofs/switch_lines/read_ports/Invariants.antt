use Rattle.std.proofs.Common.{◌≡◌, [], length, map, drop}
use Rattle.script_words.specs.Ports.{ports_from}
use Rattle.script_text.proofs.switch_lines.read_ports.Given as goal

abbrev pub invariant-loop-word : goal.invariant-loop-word
invariant-loop-word l = record {
  read : ports_from l.before [] (map (λ word. word.now) l.words) ≡ ports_from l.before l.ports (map (λ word. word.now) (drop l.word-index l.words));
  counted : length l.ports ≡ l.word-index;
}
