use Rattle.std.proofs.Common.{ℕ, ◌≤◌, ◌<◌, Contains}
use Rattle.host_memory.proofs.memory.Memory.has_none.Given as goal

abbrev pub invariant-loop-number : goal.invariant-loop-number
invariant-loop-number l = (page : ℕ) → l.first ≤ page → page < l.number → ¬ Contains l.self.promised page
