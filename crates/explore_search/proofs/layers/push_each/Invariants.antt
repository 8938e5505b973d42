use Rattle.std.proofs.Common.{◌≡◌, ◌++◌, map}
use Rattle.explore_search.specs.Layers.{with_answers}
use Rattle.explore_search.proofs.layers.push_each.Given as goal

abbrev pub invariant-loop-branch : goal.invariant-loop-branch
invariant-loop-branch g l = l.groups.items ≡ l.initial.groups.items ++ map (with_answers l.answers) l.yielded
