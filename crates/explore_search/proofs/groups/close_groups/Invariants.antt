use Rattle.std.proofs.Common.{◌≡◌, ◌+◌, ◌≤◌, take}
use Rattle.explore_search.specs.Closing.{ClosedUpTo, states_in}
use Rattle.explore_search.proofs.groups.close_groups.Given as goal

abbrev pub invariant-loop-place : goal.invariant-loop-place
invariant-loop-place g l = record {
  closed : ClosedUpTo g.M.Machine.has_made g.M.Machine.plan_held g.M.Machine.key_of l.plan l.done l.place l.fn.layer l.layer;
  count : l.count ≡ l.before + states_in (take l.place l.layer);
  few : l.count ≤ l.limit;
}
