use Rattle.std.proofs.Common.{◌≡◌, map}
use Rattle.explore_search.specs.Results.{outcome_of}
use Rattle.explore_search.proofs.search.outcomes_of.Given as goal

abbrev pub invariant-loop-group : goal.invariant-loop-group
invariant-loop-group g l = l.outcomes.items ≡ map outcome_of l.yielded
