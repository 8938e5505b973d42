use Rattle.std.proofs.Common.{◌≡◌, length, map, take, vec_capacity}
use Rattle.host_memory.specs.Pages.{bytes_by_place}
use Rattle.host_memory.proofs.pages.Pages.copy_of.Given as goal

abbrev pub invariant-loop-group : goal.invariant-loop-group
invariant-loop-group l = record {
  copied : map bytes_by_place l.groups.items ≡ map bytes_by_place (take l.group-index l.group-items);
  count : length l.groups.items ≡ l.group-index;
  room : vec_capacity l.groups ≡ length l.group-items;
}
