use Rattle.host_memory.proofs.Blank.{LieOutside}
use Rattle.host_memory.proofs.memory.Memory.promises_none.Given as goal

abbrev pub invariant-loop-page : goal.invariant-loop-page
invariant-loop-page l = LieOutside l.first l.last l.page-index l.page-items
