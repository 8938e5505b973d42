use Rattle.std.proofs.Common.{◌≡◌, ◌≤◌, length, take}
use Rattle.std.specs.Vec.{vec_capacity, vec_len}
use Rattle.fabric_core.proofs.fabric.copies.Given as goal

abbrev pub invariant-loop-dev : goal.invariant-loop-dev
invariant-loop-dev l = record {
  so_far : l.copies.items ≡ take l.dev-index l.devs;
  len : vec_len l.copies ≡ l.dev-index;
  room : length l.devs ≤ vec_capacity l.copies;
}
