use Rattle.std.proofs.Common.{◌≡◌, ◌≤◌, ◌++◌, List}
use Rattle.pair_model.specs.PlanParts.{steps_in}
use Rattle.step_kinds.specs.declared.plan.Plan.{Plan}
use Rattle.step_kinds.specs.declared.steps.Step.{Step}
use Rattle.explore_search.specs.Paths.{between}
use Rattle.explore_search.proofs.paths.make_lines.Given as goal

abbrev pub invariant-loop-place : goal.invariant-loop-place
invariant-loop-place g l = record {
  none : l.to ≤ l.from → l.place ≡ l.from;
  plan : g.M.Machine.plan_held l.machine ≡ g.M.Machine.plan_held l.fn.machine;
  made : (plan : Plan) (steps : List Step) → g.M.Machine.has_made l.fn.machine plan steps →
      g.M.Machine.has_made l.machine plan (steps ++ between (steps_in l.lines) l.from l.place);
}
