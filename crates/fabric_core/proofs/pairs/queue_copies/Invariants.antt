use Rattle.std.proofs.Common.{◌≡◌, ◌≤◌, length, take}
use Rattle.std.specs.Vec.{vec_capacity, vec_len}
use Rattle.fabric_core.proofs.pairs.queue_copies.Given as goal

abbrev pub invariant-loop-queue : goal.invariant-loop-queue
invariant-loop-queue l = record {
  so_far : l.copies.items ≡ take l.queue-index l.queues;
  len : vec_len l.copies ≡ l.queue-index;
  room : length l.queues ≤ vec_capacity l.copies;
}
