use Rattle.std.proofs.Common.{◌≡◌, sym, ◌∙◌}
use Rattle.host_memory.specs.Pages.{memory_bytes_in, page_at}
use Rattle.host_memory.proofs.SamePages.{FindSame, bytes_in-found, find_same, there_same}
use Rattle.host_memory.proofs.memory.Memory.copy_of.Goals as goal

pub invariant_of-result : goal.invariant_of-result
invariant_of-result c =
    let found = page_at c.in_ok-copy_of.field-0.groups.items in
    let was = page_at c.self.inside.pages.groups.items in
    let same : FindSame found was = find_same _ _ c.in_ok-copy_of.ensures in
    let promised : c.in_ok-from_slice.field-0.items ≡ c.self.inside.promised.items = c.in_ok-from_slice.ensures.items ∙ c.deref.ensures.value in
    record {
      len = c.self.invariant.len;
      distinct = rw promised c.self.invariant.distinct;
      there = rw promised (λ page among. there_same found was same page ∙ c.self.invariant.there page among);
      among = rw promised (λ page there. c.self.invariant.among page (sym (there_same found was same page) ∙ there));
    }

pub returns : goal.returns
returns c =
    let found = page_at c.in_ok-copy_of.field-0.groups.items in
    let was = page_at c.self.inside.pages.groups.items in
    let bytes : memory_bytes_in found c.self.inside.len ≡ memory_bytes_in was c.self.inside.len = bytes_in-found found was c.self.inside.len (find_same _ _ c.in_ok-copy_of.ensures) in
    let promised : c.in_ok-from_slice.field-0.items ≡ c.self.inside.promised.items = c.in_ok-from_slice.ensures.items ∙ c.deref.ensures.value in
    rw (bytes, promised) c.self.view_is
