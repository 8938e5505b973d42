use Rattle.std.proofs.Common.{◌-◌, ◌≤◌, vec_capacity, vec_len}
use Rattle.bridge_pair.proofs.endpoint.make_buffers.Given as goal

abbrev pub invariant-loop-alloc : goal.invariant-loop-alloc
invariant-loop-alloc l =
    record {
      stay : vec_len l.initial.buffers ≤ vec_len l.buffers;
      room : l.count ≤ vec_capacity l.buffers;
    }

abbrev pub decreases-loop-alloc : goal.decreases-loop-alloc
decreases-loop-alloc l = l.count - vec_len l.buffers
