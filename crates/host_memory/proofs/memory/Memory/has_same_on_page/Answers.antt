use Rattle.std.proofs.Common.{rules, ◌%◌, refl, ap, sym, ◌∙◌}
use Rattle.host_memory.specs.Memory.{Contents}
use Rattle.host_memory.specs.Pages.{page_at}
use Rattle.host_memory.proofs.OnPage.{length-mid, read_absent, read_there, told_same, told_zeros}
use Rattle.host_memory.proofs.memory.Memory.has_same_on_page.Goals as goal

pub returns-in-Some-Some : goal.returns-in-Some-Some
returns-in-Some-Some c =
    told_same _ _ _ _ c.eq.result
    (read_there (page_at c.self.inside.pages.groups.items) c.self.inside.len c.args.at c.args.len c.in-Some-Some.page.now c.deref.result.now c.args.self.now.bytes
    (ap (λ (contents : Contents). contents.bytes) c.self.view_is) c.requires.here c.requires.one_page c.in-Some-Some.ensures c.deref.ensures (search rules))
    (read_there (page_at c.other.inside.pages.groups.items) c.other.inside.len c.args.at c.args.len c.in-Some-Some.against.now c.deref-in-Some-Some.result.now c.args.other.now.bytes
    (ap (λ (contents : Contents). contents.bytes) c.other.view_is) c.requires.there c.requires.one_page c.in-Some-Some.ensures' c.deref-in-Some-Some.ensures (search rules))
    c.eq.ensures

pub returns-in-None-None : goal.returns-in-None-None
returns-in-None-None c =
    let here = read_absent (page_at c.self.inside.pages.groups.items) c.self.inside.len c.args.at c.args.len c.args.self.now.bytes (ap (λ (contents : Contents). contents.bytes) c.self.view_is) c.requires.here c.requires.one_page c.in-None-None.ensures in
    let there = read_absent (page_at c.other.inside.pages.groups.items) c.other.inside.len c.args.at c.args.len c.args.other.now.bytes (ap (λ (contents : Contents). contents.bytes) c.other.view_is) c.requires.there c.requires.one_page c.in-None-None.ensures' in
    (λ yes. sym here ∙ there, λ same. refl)

pub returns-in-Some-None : goal.returns-in-Some-None
returns-in-Some-None c =
    told_zeros _ _ _ c.args.len c.are_zeros.result
    (read_there (page_at c.self.inside.pages.groups.items) c.self.inside.len c.args.at c.args.len c.in-Some-None.page.now c.deref-in-Some-None.result.now c.args.self.now.bytes
    (ap (λ (contents : Contents). contents.bytes) c.self.view_is) c.requires.here c.requires.one_page c.in-Some-None.ensures c.deref-in-Some-None.ensures (search rules))
    (length-mid (c.args.at % 512) c.args.len c.deref-in-Some-None.result.now (search rules))
    (read_absent (page_at c.other.inside.pages.groups.items) c.other.inside.len c.args.at c.args.len c.args.other.now.bytes (ap (λ (contents : Contents). contents.bytes) c.other.view_is)
    c.requires.there c.requires.one_page c.in-Some-None.ensures')
    c.are_zeros.ensures

pub returns-in-None-Some : goal.returns-in-None-Some
returns-in-None-Some c =
    let told = told_zeros _ _ _ c.args.len c.are_zeros-in-None-Some.result
    (read_there (page_at c.other.inside.pages.groups.items) c.other.inside.len c.args.at c.args.len c.in-None-Some.page.now c.deref-in-None-Some.result.now c.args.other.now.bytes
    (ap (λ (contents : Contents). contents.bytes) c.other.view_is) c.requires.there c.requires.one_page c.in-None-Some.ensures' c.deref-in-None-Some.ensures (search rules))
    (length-mid (c.args.at % 512) c.args.len c.deref-in-None-Some.result.now (search rules))
    (read_absent (page_at c.self.inside.pages.groups.items) c.self.inside.len c.args.at c.args.len c.args.self.now.bytes (ap (λ (contents : Contents). contents.bytes) c.self.view_is)
    c.requires.here c.requires.one_page c.in-None-Some.ensures)
    c.are_zeros-in-None-Some.ensures in
    (λ yes. sym (told.0 yes), λ same. told.1 (sym same))
