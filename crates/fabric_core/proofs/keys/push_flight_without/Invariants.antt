use Rattle.std.proofs.Common.{◌≡◌, ◌++◌}
use Rattle.bridge_pair.specs.Bridge.{flight_of}
use Rattle.fabric_core.proofs.InFlight.{key_before_without}
use Rattle.fabric_core.proofs.keys.push_flight_without.Given as goal

abbrev pub invariant-loop-place : goal.invariant-loop-place
invariant-loop-place l = l.key.items ≡ l.initial.key.items ++ key_before_without (flight_of l.pair l.side).writes l.without l.place
