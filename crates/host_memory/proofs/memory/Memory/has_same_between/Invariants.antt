use Rattle.std.proofs.Common.{Contains}
use Rattle.host_memory.proofs.SameBetween.{AreSameOnFirst}
use Rattle.host_memory.proofs.memory.Memory.has_same_between.Given as goal

abbrev pub invariant-loop-page : goal.invariant-loop-page
invariant-loop-page l = AreSameOnFirst l.page-items l.page-index (λ page. ¬ Contains l.self.promised page) l.from l.to l.self.bytes l.other.bytes
