use Rattle.host_memory.proofs.SameBetween.{AreSameOnFirst}
use Rattle.host_memory.proofs.memory.Memory.has_same_on_own.Given as goal

abbrev pub invariant-loop-page : goal.invariant-loop-page
invariant-loop-page l = AreSameOnFirst l.page-items l.page-index (λ page. Unit {0}) l.from l.to l.self.bytes l.other.bytes
