use Rattle.std.proofs.Common.{◌≡◌, ◌++◌, length}
use Rattle.std.specs.Vec.Iter.{into_iter_items}
use Rattle.step_list.specs.StepLists.{all_lines}
use Rattle.step_list.proofs.step_list.StepList.into_items.Given as goal

abbrev pub invariant-loop-stretch : goal.invariant-loop-stretch
invariant-loop-stretch l = l.lines.items ++ all_lines (into_iter_items l.stretches) ≡ l.fn.self

abbrev pub decreases-loop-stretch : goal.decreases-loop-stretch
decreases-loop-stretch l = length (into_iter_items l.stretches)
