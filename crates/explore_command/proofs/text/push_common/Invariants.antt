-- The answers to the steps so far are in the text, if outcomes agree.
use Rattle.std.proofs.Common.{◌≡◌, ◌++◌}
use Rattle.std.specs.List.{flat_map, range_with_len}
use Rattle.explore_model.specs.Texts.{common_line}
use Rattle.explore_command.proofs.text.push_common.Given as goal

abbrev pub invariant-loop-k : goal.invariant-loop-k
invariant-loop-k l = l.text.items ≡ l.initial.text.items ++ flat_map (common_line l.plan l.outcomes) (range_with_len 0 l.k)
