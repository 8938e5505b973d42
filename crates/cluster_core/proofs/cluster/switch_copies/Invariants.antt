use Rattle.std.proofs.Common.{◌≡◌, ◌≤◌, length, take}
use Rattle.std.specs.Vec.{vec_capacity, vec_len}
use Rattle.cluster_core.proofs.cluster.switch_copies.Given as goal

abbrev pub invariant-loop-switch : goal.invariant-loop-switch
invariant-loop-switch l = record {
  so_far : l.copies.items ≡ take l.switch-index l.switches;
  len : vec_len l.copies ≡ l.switch-index;
  room : length l.switches ≤ vec_capacity l.copies;
}
