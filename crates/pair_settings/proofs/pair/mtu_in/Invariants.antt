use Rattle.std.proofs.Common.{◌≡◌, drop}
use Rattle.pair_settings.specs.Settings as rules
use Rattle.pair_settings.proofs.pair.mtu_in.Given as goal

abbrev pub invariant-loop-setting : goal.invariant-loop-setting
invariant-loop-setting l = rules.mtu_in l.settings ≡ rules.mtu_in (drop l.setting-index l.settings)
