use Rattle.std.proofs.Common.{◌-◌, ◌≤◌, vec_capacity, vec_len}
use Rattle.host_memory.specs.Pages.{KeepsPages}
use Rattle.host_memory.proofs.pages.make_groups.Given as goal

abbrev pub invariant-loop-alloc : goal.invariant-loop-alloc
invariant-loop-alloc l =
    record {
      pages : KeepsPages l.initial.groups.items l.groups.items;
      room : l.count ≤ vec_capacity l.groups;
    }

abbrev pub decreases-loop-alloc : goal.decreases-loop-alloc
decreases-loop-alloc l = l.count - vec_len l.groups
