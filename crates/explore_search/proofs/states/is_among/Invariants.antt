use Rattle.std.proofs.Common.{◌<◌, List, length}
use Rattle.std.specs.Prelude.{IfSome}
use Rattle.step_kinds.specs.declared.steps.Step.{Step}
use Rattle.explore_search.specs.States.{Reaches}
use Rattle.explore_search.proofs.ChainedStates.{StandsAt, past}
use Rattle.explore_search.proofs.states.is_among.Given as goal

abbrev pub invariant-loop-last : goal.invariant-loop-last
invariant-loop-last g l = record {
  within : IfSome l.last (λ place. place < length l.states);
  stands : (made : List Step) → g.M.Machine.has_made l.machine l.plan made → StandsAt l.states l.key.items (λ state. Reaches g.M.Machine.has_made l.plan l.done state made) l.last;
}

abbrev pub decreases-loop-last : goal.decreases-loop-last
decreases-loop-last g l = past l.last
