use Rattle.std.proofs.Common.{◌≡◌, map, replicate}
use Rattle.lane_core.specs.Fresh.{zeroed_slot}
use Rattle.lane_core.specs.Parts.{place_seen}
use Rattle.lane_core.proofs.ring.zeroed_ring.Given as goal

abbrev pub invariant-loop : goal.invariant-loop
invariant-loop l = map place_seen l.ring.items ≡ replicate l.counter (zeroed_slot l.largest)
