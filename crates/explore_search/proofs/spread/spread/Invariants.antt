use Rattle.std.proofs.Common.{ℕ, ◌<◌, get_or}
use Rattle.explore_model.specs.declared.outcome.Landing.{Landing}
use Rattle.explore_search.specs.Spread.{Lands}
use Rattle.explore_search.specs.States.{HaveGrown, IsSpareOf}
use Rattle.explore_search.proofs.spread.spread.Given as goal

abbrev pub invariant-loop-landing : goal.invariant-loop-landing
invariant-loop-landing g l = record {
  grown : HaveGrown g.M.Machine.has_made g.M.Machine.plan_held g.M.Machine.key_of l.plan l.done l.fn.states l.states;
  led : (k : ℕ) (d : Landing) (state : _) → k < l.landing-index →
      Lands g.M.Machine.has_made l.plan l.done l.states (get_or l.fn.states l.from state) (get_or l.landing-items k d);
  spare : (d : _) → IsSpareOf g.M.Machine.has_made g.M.Machine.plan_held l.plan l.done l.spare (get_or l.fn.states l.from d);
}
