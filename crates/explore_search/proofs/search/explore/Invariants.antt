use Rattle.std.proofs.Common.{◌≤◌}
use Rattle.explore_model.specs.States.{most_states}
use Rattle.explore_search.specs.Whole.{IsBased, IsCount}
use Rattle.explore_search.proofs.search.explore.Given as goal

abbrev pub invariant-loop-done : goal.invariant-loop-done
invariant-loop-done g l = record {
  layer : IsBased g.M.Machine.has_made g.M.Machine.plan_held g.M.Machine.key_of l.plan l.done l.layer.items;
  count : IsCount g.M.Machine.has_made g.M.Machine.plan_held g.M.Machine.key_of l.plan l.done l.states;
  few : l.states ≤ most_states;
}
