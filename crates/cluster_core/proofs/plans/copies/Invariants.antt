use Rattle.std.proofs.Common.{◌≡◌, ◌≤◌, length, take}
use Rattle.std.specs.Vec.{vec_capacity, vec_len}
use Rattle.cluster_core.proofs.plans.copies.Given as goal

abbrev pub invariant-loop-plan : goal.invariant-loop-plan
invariant-loop-plan l = record {
  so_far : l.copies.items ≡ take l.plan-index l.plans;
  len : vec_len l.copies ≡ l.plan-index;
  room : length l.plans ≤ vec_capacity l.copies;
}
