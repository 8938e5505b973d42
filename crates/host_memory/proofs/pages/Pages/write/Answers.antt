use borrow.Rule.Slice.PartMut.{put_mid}
use Rattle.std.proofs.Common.{◌≡◌, ℕ, ◌+◌, ◌-◌, ◌%◌, Option, None, Some, IfSome, List, length, option_map, refl, sym, ap, subst, ◌∙◌, arith, rules}
use Rattle.std.specs.Box.{with_value}
use Rattle.std.specs.Global.{Box}
use Rattle.std.proofs.lemmas.List.{get_or-set_same}
use Rattle.host_memory.specs.Pages.{page_at, page_with_bytes}
use Rattle.host_memory.proofs.MemoryPages.{middle_written}
use Rattle.host_memory.proofs.Table.{group_within, page_in_set_group, page_read, page_within}
use Rattle.host_memory.proofs.pages.Pages.write.Goals as goal

pub index_mut-requires : goal.index_mut-requires
index_mut-requires c =
    let groups = c.args.self.now.groups.items in
    let within = page_within groups c.index_mut-group.result.now c.args.number (group_within groups c.args.number c.requires.there) c.index_mut-group.ensures.value c.requires.there in
    omega (arith, within, c.index_mut-group.result.now.ok.0)

pub returns-in-Some-clause-page : goal.returns-in-Some-clause-page
returns-in-Some-clause-page c =
    let groups = c.args.self.now.groups.items in
    let number = c.args.number in
    let group = c.index_mut-group.result.now in
    let row = group_within groups number c.requires.there in
    let within = page_within groups group number row c.index_mut-group.ensures.value c.requires.there in
    let found : page_at groups number ≡ Some c.in-Some.page = page_read groups group number c.index_mut.result.now _ c.index_mut-group.ensures.value c.requires.there c.index_mut.ensures.value c.in-Some.is in
    let start = c.args.start in
    let after : List ℕ = put_mid start (start + length c.args.bytes.now - start) c.deref_mut.result.now c.copy_from_slice.new.self in
    let whole : length c.in-Some.page.value ≡ 512 = search rules in
    let changed = middle_written c.deref_mut.result.now c.in-Some.page.value c.copy_from_slice.new.self c.args.bytes.now start (start + length c.args.bytes.now) c.deref_mut.ensures.value c.copy_from_slice.ensures.after refl (rw whole c.requires.fits) in
    page_in_set_group groups _ number row
    ∙ get_or-set_same group.items (number % 512) _ None within
    ∙ ap (λ (bytes : List ℕ). Some (with_value c.in-Some.page bytes)) changed
    ∙ sym (ap (option_map (page_with_bytes start c.args.bytes.now)) found)

pub returns-in-Some-clause-whole : goal.returns-in-Some-clause-whole
returns-in-Some-clause-whole c =
    let groups = c.args.self.now.groups.items in
    let number = c.args.number in
    let group = c.index_mut-group.result.now in
    let whole : length c.in-Some.page.value ≡ 512 = search rules in
    let found : page_at groups number ≡ Some c.in-Some.page = page_read groups group number c.index_mut.result.now _ c.index_mut-group.ensures.value c.requires.there c.index_mut.ensures.value c.in-Some.is in
    let P : Option (Box (List ℕ)) → Type 0 = λ o. IfSome o (λ page. length page.value ≡ 512) in
    subst P (sym found) whole
