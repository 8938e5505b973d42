use Rattle.std.proofs.Common.{◌≡◌, ◌≤◌, length, take}
use Rattle.std.specs.Vec.{vec_capacity, vec_len}
use Rattle.fabric_core.proofs.fabric.pair_copies.Given as goal

abbrev pub invariant-loop-pair : goal.invariant-loop-pair
invariant-loop-pair l = record {
  so_far : l.copies.items ≡ take l.pair-index l.pairs;
  len : vec_len l.copies ≡ l.pair-index;
  room : length l.pairs ≤ vec_capacity l.copies;
}
