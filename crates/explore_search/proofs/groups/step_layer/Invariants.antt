use Rattle.std.proofs.Common.{length}
use Rattle.explore_search.proofs.NextLayer.{IsNextOf}
use Rattle.explore_search.proofs.groups.step_layer.Given as goal

abbrev pub invariant-loop-group : goal.invariant-loop-group
invariant-loop-group g l = IsNextOf g.M.Machine.has_made g.M.Machine.plan_held g.M.Machine.key_of l.plan l.done l.fn.layer.items (length l.yielded) l.next.items
