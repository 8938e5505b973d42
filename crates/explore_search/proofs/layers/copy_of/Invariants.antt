use Rattle.std.proofs.Common.{◌≡◌, take}
use Rattle.explore_search.proofs.layers.copy_of.Given as goal

abbrev pub invariant-loop-text : goal.invariant-loop-text
invariant-loop-text l = l.copy ≡ take l.text-index l.texts
