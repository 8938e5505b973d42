-- The rings of the queues before this one are in the text.
use Rattle.std.proofs.Common.{◌≡◌, ◌++◌}
use Rattle.std.specs.List.{flat_map, range_with_len}
use Rattle.trace_command.specs.Head.{ring_after}
use Rattle.trace_command.proofs.head.push_rings.Given as goal

abbrev pub invariant-loop-queue : goal.invariant-loop-queue
invariant-loop-queue l = l.text.items ≡ l.initial.text.items ++ flat_map (ring_after l.pair l.side) (range_with_len 0 l.queue)
