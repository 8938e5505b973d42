use Rattle.std.proofs.Common.{ℕ, ◌+◌, ◌<◌, [], ◌∷◌, ◌++◌, List, get_or, length}
use Rattle.std.specs.List.{All}
use Rattle.step_kinds.specs.declared.steps.Step.{Step}
use Rattle.explore_model.specs.Schedules.{text_after}
use Rattle.explore_search.specs.Layers.{AreBranches, AreKept, AreOrdered, BranchCovers, step_at}
use Rattle.explore_search.specs.States.{HasSearchRun, Reaches}
use Rattle.explore_search.proofs.layers.branches_of.Given as goal

abbrev pub invariant-loop-state : goal.invariant-loop-state
invariant-loop-state g l = record {
  kept : All (λ branch. AreKept g.M.Machine.has_made g.M.Machine.plan_held g.M.Machine.key_of l.plan (l.done + 1) branch.states) l.branches.items;
  each : (answers : List (List ℕ)) → All (HasSearchRun l.plan l.done answers) l.fn.states.items →
      AreBranches g.M.Machine.has_made g.M.Machine.plan_held g.M.Machine.key_of l.plan (l.done + 1) answers l.branches.items;
  ordered : AreOrdered l.branches.items;
  taken : (k : ℕ) (d : _) → k < length l.yielded → (made : List Step) → Reaches g.M.Machine.has_made l.plan l.done (get_or l.fn.states.items k d) made →
      BranchCovers g.M.Machine.has_made g.M.Machine.plan_held g.M.Machine.key_of l.plan (l.done + 1) l.branches.items (text_after l.plan made (step_at l.plan l.done))
      (made ++ step_at l.plan l.done ∷ []);
}
