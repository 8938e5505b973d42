use Rattle.std.proofs.Common.{◌≡◌, ◌==◌, false, take}
use Rattle.std.specs.List.{list_any}
use Rattle.posted_queue.proofs.block.has_class_before.Given as goal

abbrev pub invariant-loop-index : goal.invariant-loop-index
invariant-loop-index g l = list_any (λ write. (g.W.Ordered.order write).class == l.class) (take l.index l.writes.items) ≡ false
