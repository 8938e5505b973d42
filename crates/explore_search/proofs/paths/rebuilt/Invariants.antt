use Rattle.std.proofs.Common.{◌≡◌, take}
use Rattle.pair_model.specs.PlanParts.{declared_part}
use Rattle.explore_search.specs.Paths.{search_script_of, walked}
use Rattle.explore_search.proofs.paths.rebuilt.Given as goal

abbrev pub invariant-loop-landing : goal.invariant-loop-landing
invariant-loop-landing g l = record {
  plan : g.M.Machine.plan_held l.machine ≡ declared_part l.plan;
  at : l.at ≡ (walked (search_script_of l.plan) (take l.landing-index l.landings)).at;
  made : g.M.Machine.has_made l.machine l.plan (walked (search_script_of l.plan) (take l.landing-index l.landings)).made;
}
