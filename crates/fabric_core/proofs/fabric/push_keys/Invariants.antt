use Rattle.std.proofs.Common.{◌≡◌, ◌++◌, take}
use Rattle.std.specs.List.{flat_map}
use Rattle.fabric_core.specs.InFlight.{pair_key}
use Rattle.fabric_core.proofs.fabric.push_keys.Given as goal

abbrev pub invariant-loop-pair : goal.invariant-loop-pair
invariant-loop-pair l = l.key.items ≡ l.initial.key.items ++ flat_map pair_key (take l.pair-index l.pairs)
