use Rattle.std.proofs.Common.{◌-◌, ◌≤◌, vec_capacity, vec_len}
use Rattle.host_memory.specs.Pages.{KeepsPlaces}
use Rattle.host_memory.proofs.pages.make_places.Given as goal

abbrev pub invariant-loop-group : goal.invariant-loop-group
invariant-loop-group l =
    record {
      places : KeepsPlaces l.initial.group.items l.group.items;
      room : l.count ≤ vec_capacity l.group;
    }

abbrev pub decreases-loop-group : goal.decreases-loop-group
decreases-loop-group l = l.count - vec_len l.group
