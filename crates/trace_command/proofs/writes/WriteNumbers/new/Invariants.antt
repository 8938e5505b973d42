-- The pairs before the index stand as they are declared.
use Rattle.std.proofs.Common.{◌≡◌, map, take}
use Rattle.trace_command.specs.Writes.{pair_start}
use Rattle.trace_command.proofs.writes.WriteNumbers.new.Given as goal

abbrev pub invariant-loop-plan : goal.invariant-loop-plan
invariant-loop-plan l = l.numbers.items ≡ map pair_start (take l.plan-index l.pairs)
