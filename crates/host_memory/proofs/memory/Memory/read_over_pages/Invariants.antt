use Rattle.std.proofs.Common.{◌≡◌, ◌-◌, ◌≤◌, length, take}
use Rattle.host_memory.specs.Memory.{bytes_at}
use Rattle.host_memory.proofs.memory.Memory.read_over_pages.Given as goal

abbrev pub invariant-loop-done : goal.invariant-loop-done
invariant-loop-done l = record {
  within : l.done ≤ length l.initial.out;
  so_far : take l.done l.out ≡ bytes_at l.at l.done l.self.bytes;
}

abbrev pub decreases-loop-done : goal.decreases-loop-done
decreases-loop-done l = length l.initial.out - l.done
