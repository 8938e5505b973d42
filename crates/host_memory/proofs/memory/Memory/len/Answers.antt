use Rattle.std.proofs.Common.{length, sym, ap, ◌∙◌}
use Rattle.host_memory.specs.Memory.{Contents}
use Rattle.host_memory.specs.Pages.{page_at}
use Rattle.host_memory.proofs.MemoryPages.{length-bytes_in}
use Rattle.host_memory.proofs.memory.Memory.len.Goals as goal

pub returns-clause-value : goal.returns-clause-value
returns-clause-value c =
    sym (length-bytes_in (page_at c.self.inside.pages.groups.items) c.self.inside.len) ∙ ap (λ (contents : Contents). length contents.bytes) c.self.view_is
