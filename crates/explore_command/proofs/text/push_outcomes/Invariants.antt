-- The lines of the outcomes so far are in the text.
use Rattle.std.proofs.Common.{◌≡◌, ◌++◌}
use Rattle.std.specs.List.{flat_map, range_with_len}
use Rattle.explore_model.specs.Texts.{outcome_lines}
use Rattle.explore_command.proofs.text.push_outcomes.Given as goal

abbrev pub invariant-loop-k : goal.invariant-loop-k
invariant-loop-k l = l.text.items ≡ l.initial.text.items ++ flat_map (outcome_lines l.plan l.outcomes) (range_with_len 0 l.k)
