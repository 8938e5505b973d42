use Rattle.std.proofs.Common.{◌≡◌, ◌+◌, ◌≤◌, Contains, length, sym, ◌∙◌, subst, ap}
use Rattle.host_memory.specs.Memory.{Contents, page_of}
use Rattle.host_memory.specs.Pages.{memory_bytes_in, page_at}
use Rattle.host_memory.proofs.MemoryPages.{length-bytes_in, page_written}
use Rattle.host_memory.proofs.memory.Memory.write_on_page.Goals as goal

pub returns-clause-bytes : goal.returns-clause-bytes
returns-clause-bytes c =
    let pages = page_at c.self.inside.pages.groups.items in
    let seen : memory_bytes_in pages c.self.inside.len ≡ c.args.self.now.bytes = ap (λ (contents : Contents). contents.bytes) c.self.view_is in
    let within : c.args.at + length c.args.bytes.now ≤ c.self.inside.len = subst (λ n. c.args.at + length c.args.bytes.now ≤ n) (ap length (sym seen) ∙ length-bytes_in pages c.self.inside.len) c.requires.within in
    let promised : Contains c.self.inside.promised.items (page_of c.args.at) = rw (ap (λ (contents : Contents). contents.promised) c.self.view_is) c.requires.promised in
    rw (sym seen) (page_written pages (page_at c.write.new.self.groups.items) c.self.inside.len c.args.at c.args.bytes.now within c.requires.one_page
    c.write.ensures.page c.write.ensures.others c.write.ensures.whole (c.self.invariant.there (page_of c.args.at) promised))
