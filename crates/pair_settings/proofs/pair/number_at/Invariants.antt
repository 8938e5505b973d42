use Rattle.std.proofs.Common.{◌≡◌, drop}
use Rattle.pair_settings.specs.Settings as rules
use Rattle.pair_settings.proofs.pair.number_at.Given as goal

abbrev pub invariant-loop-setting : goal.invariant-loop-setting
invariant-loop-setting l = rules.setting_number_at l.key l.side l.settings ≡ rules.setting_number_at l.key l.side (drop l.setting-index l.settings)
