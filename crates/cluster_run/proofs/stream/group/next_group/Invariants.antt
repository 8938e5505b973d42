use Rattle.std.proofs.Common.{◌≡◌, ◌≤◌, ◌∷◌, ◌++◌, length}
use Rattle.cluster_run.specs.LaneKeys.{keys_of}
use Rattle.cluster_run.specs.stream.Keys.{AreNumbered}
use Rattle.cluster_run.proofs.stream.group.next_group.Given as goal

abbrev pub invariant-loop-entries : goal.invariant-loop-entries
invariant-loop-entries l =
    (keys_of l.works.items ++ l.waiting.items ≡ l.fn.first ∷ l.fn.waiting.items) × (length l.waiting.items ≤ length l.fn.waiting.items) × (l.entries ≤ 1000000) × AreNumbered l.fn.lanes l.works.items

abbrev pub decreases-loop-entries : goal.decreases-loop-entries
decreases-loop-entries l = length l.waiting.items
