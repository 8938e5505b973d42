use Rattle.std.proofs.Common.{◌≡◌, ◌<◌, ◌≤◌, ◌+◌, ◌^◌, length}
use Rattle.posted_queue.proofs.block_queue.BlockQueue.discard.Given as goal

abbrev pub invariant-loop-self : goal.invariant-loop-self
invariant-loop-self g l = record {
  room : l.self-inside.spare ≤ l.self-inside.blocks.spare;
  fits : length l.self-inside.blocks.writes + l.self-inside.spare < 2 ^ 64;
  same : l.self-inside.spare ≡ l.fn.self.spare;
}

abbrev pub decreases-loop-self : goal.decreases-loop-self
decreases-loop-self g l = length l.self-inside.blocks.writes
