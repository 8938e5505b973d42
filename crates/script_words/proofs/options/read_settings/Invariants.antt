use Rattle.std.proofs.Common.{◌≡◌, [], map, drop}
use Rattle.script_words.specs.Settings as rules
use Rattle.script_words.proofs.FewSettings.{Apart}
use Rattle.script_words.proofs.options.read_settings.Given as goal

abbrev pub invariant-loop-word : goal.invariant-loop-word
invariant-loop-word l = record {
  read : rules.settings_from [] (map (λ word. word.now) l.words) ≡ rules.settings_from l.settings (map (λ word. word.now) (drop l.word-index l.words));
  apart : Apart l.settings;
}
