use Rattle.std.proofs.Common.{◌≡◌, ◌-◌, ◌≤◌, length, take}
use Rattle.host_memory.specs.Memory.{written}
use Rattle.host_memory.proofs.memory.Memory.write_over_pages.Given as goal

abbrev pub invariant-loop-done : goal.invariant-loop-done
invariant-loop-done l = record {
  within : l.done ≤ length l.bytes;
  so_far : l.self.bytes ≡ written l.at (take l.done l.bytes) l.initial.self.bytes;
  size : length l.self.bytes ≡ length l.initial.self.bytes;
  promised : l.self.promised ≡ l.initial.self.promised;
}

abbrev pub decreases-loop-done : goal.decreases-loop-done
decreases-loop-done l = length l.bytes - l.done
