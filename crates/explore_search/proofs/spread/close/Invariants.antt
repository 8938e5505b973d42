use Rattle.std.proofs.Common.{ℕ, ◌-◌, ◌<◌, ◌≤◌, get_or, length}
use Rattle.explore_search.specs.Spread.{IsSpread}
use Rattle.explore_search.specs.States.{HaveGrown}
use Rattle.explore_search.proofs.spread.close.Given as goal

abbrev pub invariant-loop-from : goal.invariant-loop-from
invariant-loop-from g l = record {
  within : l.from ≤ length l.states;
  grown : HaveGrown g.M.Machine.has_made g.M.Machine.plan_held g.M.Machine.key_of l.plan l.done l.fn.states l.states;
  spread : (k : ℕ) (d : _) → k < l.from → IsSpread g.M.Machine.has_made l.plan l.done l.states (get_or l.states k d);
}

abbrev pub decreases-loop-from : goal.decreases-loop-from
decreases-loop-from g l = l.room - l.from
