use Rattle.std.proofs.Common.{◌≡◌, ℕ, ◌+◌, ◌<◌, slice_get}
use Rattle.bridge_pair.proofs.same.have_same_run.Given as goal

abbrev pub invariant-loop-k : goal.invariant-loop-k
invariant-loop-k l = (k : ℕ) → k < l.k → slice_get l.one.writes (l.from + k) ≡ slice_get l.other.writes (l.at + k)
