use Rattle.std.proofs.Common.{◌≡◌, ◌*◌, ◌/◌, ◌%◌, ◌^◌, map}
use Rattle.std.specs.List.{range_with_len}
use Rattle.traffic_plan.proofs.load.payload.Given as goal

abbrev pub invariant-loop : goal.invariant-loop
invariant-loop l = l.bytes.items ≡ map (λ j. l.word / 2 ^ (8 * (j % 8)) % 256) (range_with_len 0 (64 * l.counter))
