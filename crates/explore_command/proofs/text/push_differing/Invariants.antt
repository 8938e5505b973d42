-- The answers to the steps so far are in the text, if outcomes differ.
use Rattle.std.proofs.Common.{◌≡◌, ◌++◌}
use Rattle.std.specs.List.{flat_map, range_with_len}
use Rattle.explore_model.specs.Texts.{differing_line}
use Rattle.explore_command.proofs.text.push_differing.Given as goal

abbrev pub invariant-loop-k : goal.invariant-loop-k
invariant-loop-k l = l.text.items ≡ l.initial.text.items ++ flat_map (differing_line l.plan l.outcomes l.outcome) (range_with_len 0 l.k)
