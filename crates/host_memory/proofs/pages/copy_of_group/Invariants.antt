use Rattle.std.proofs.Common.{◌≡◌, length, map, take, vec_capacity}
use Rattle.host_memory.specs.Pages.{page_bytes}
use Rattle.host_memory.proofs.pages.copy_of_group.Given as goal

abbrev pub invariant-loop-page : goal.invariant-loop-page
invariant-loop-page l = record {
  copied : map page_bytes l.places.items ≡ map page_bytes (take l.page-index l.page-items);
  count : length l.places.items ≡ l.page-index;
  room : vec_capacity l.places ≡ length l.page-items;
}
