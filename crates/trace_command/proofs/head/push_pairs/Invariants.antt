-- The lines of the pairs before the index are in the text.
use Rattle.std.proofs.Common.{◌≡◌, ◌++◌, take}
use Rattle.std.specs.List.{flat_map}
use Rattle.trace_command.specs.Head.{trace_pair_line}
use Rattle.trace_command.proofs.head.push_pairs.Given as goal

abbrev pub invariant-loop-pair : goal.invariant-loop-pair
invariant-loop-pair l = l.text.items ≡ l.initial.text.items ++ flat_map trace_pair_line (take l.pair-index l.pairs)
