use borrow.Rule.Slice.PartMut.{mid_of}
use Rattle.std.proofs.Common.{◌+◌, ◌-◌, ◌%◌, length, refl, ◌∙◌, ap}
use Rattle.host_memory.specs.Memory.{Contents}
use Rattle.host_memory.specs.Pages.{byte_on, page_at}
use Rattle.host_memory.proofs.MemoryPages.{read_shown, middle}
use Rattle.host_memory.proofs.memory.Memory.read_on_page.Goals as goal

pub returns-in-Some : goal.returns-in-Some
returns-in-Some c =
    read_shown (page_at c.self.inside.pages.groups.items) c.self.inside.len c.args.at (length c.args.out.now) c.copy_from_slice.new.self c.args.self.now.bytes (ap (λ (contents : Contents). contents.bytes) c.self.view_is)
    c.requires.within c.requires.one_page c.copy_from_slice.ensures.len
    (λ k h.
    middle _ _ _ _ (length c.args.out.now) k (c.copy_from_slice.ensures.after ∙ ap (λ bytes. mid_of (c.args.at % 512) (c.args.at % 512 + length c.args.out.now - c.args.at % 512) bytes) c.deref.ensures) refl h
    ∙ ap (λ found. byte_on found (c.args.at % 512 + k)) c.in-Some.ensures)

pub returns-in-None : goal.returns-in-None
returns-in-None c =
    read_shown (page_at c.self.inside.pages.groups.items) c.self.inside.len c.args.at (length c.args.out.now) c.fill.new.self c.args.self.now.bytes (ap (λ (contents : Contents). contents.bytes) c.self.view_is)
    c.requires.within c.requires.one_page c.fill.ensures.len
    (λ k h. c.fill.ensures.clones k 0 h refl ∙ ap (λ found. byte_on found (c.args.at % 512 + k)) c.in-None.ensures)
