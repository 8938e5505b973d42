-- Memories that have the same bytes at all addresses from one up to another, found out page by page.
use borrow.Author.Count.{below_more}
use Rattle.std.proofs.Common.{◌≡◌, ◌↔◌, ◌∙◌, IsTrue, ℕ, ◌+◌, ◌-◌, ◌/◌, ◌%◌, ◌<◌, ◌≤◌, Bool, true, false, IsSome, is_some, List, Contains, length, slice_index_or, refl, sym, subst, arith}
use Rattle.std.proofs.lemmas.Bool.{false≢true}
use Rattle.std.proofs.lemmas.Grind.{get_or_default_zero}
use Rattle.std.proofs.lemmas.List.{get_or-drop, get_or-take, places, same_lists}
use Rattle.host_memory.specs.Inside.{IsMemory, contents_seen}
use Rattle.host_memory.specs.Memory.{AreSameBetween, AreSameOnPage, Contents, bytes_at, page_of}
use Rattle.host_memory.specs.Pages.{page_at}
use Rattle.host_memory.specs.declared.memory.Memory.TheInside.{Inside}
use Rattle.host_memory.proofs.Blank.{byte_of_none}
use Rattle.host_memory.proofs.MemoryPages.{byte-bytes_in}

-- One range

-- the byte at an address of a range
byte_of_range : (at n : ℕ) (mem : List ℕ) (k : ℕ) → k < n → slice_index_or (bytes_at at n mem) k 0 ≡ slice_index_or mem (at + k) 0
byte_of_range at n mem k within = get_or-take n _ k 0 within ∙ get_or-drop at mem k 0

size_of_range : (at n : ℕ) (mem : List ℕ) → at + n ≤ length mem → length (bytes_at at n mem) ≡ n
size_of_range at n mem within = grind (arith, places)

-- equal ranges have the same byte at each address
same_at : (at n : ℕ) (one other : List ℕ) → bytes_at at n one ≡ bytes_at at n other → (k : ℕ) → k < n → slice_index_or one (at + k) 0 ≡ slice_index_or other (at + k) 0
same_at at n one other same k within =
    sym (byte_of_range at n one k within) ∙ subst (λ bytes. slice_index_or (bytes_at at n one) k 0 ≡ slice_index_or bytes k 0) same refl ∙ byte_of_range at n other k within

-- ranges that have the same byte at each address are equal
same_range : (at n : ℕ) (one other : List ℕ) → at + n ≤ length one → at + n ≤ length other → ((k : ℕ) → k < n → slice_index_or one (at + k) 0 ≡ slice_index_or other (at + k) 0) → bytes_at at n one ≡ bytes_at at n other
same_range at n one other here there same =
    same_lists _ _ (size_of_range at n one here ∙ sym (size_of_range at n other there))
    (λ k d less.
    let within : k < n = subst (λ size. k < size) (size_of_range at n one here) less in
    get_or_default_zero (bytes_at at n one) k d less ∙ byte_of_range at n one k within ∙ same k within ∙ sym (byte_of_range at n other k within)
    ∙ sym (get_or_default_zero (bytes_at at n other) k d (subst (λ size. k < size) (sym (size_of_range at n other there)) within)))

-- One page

-- What a test of the range that a page has in common with others tells of the page.
pub told_part : (page from to first end : ℕ) (one other : List ℕ) (told : Bool) → first ≤ end → end ≤ length one → end ≤ length other
    → ((address : ℕ) → from ≤ address → address < to → page_of address ≡ page → (first ≤ address) × (address < end))
    → ((address : ℕ) → first ≤ address → address < end → (from ≤ address) × (address < to) × (page_of address ≡ page))
    → (IsTrue told ↔ (bytes_at first (end - first) one ≡ bytes_at first (end - first) other)) → IsTrue told ↔ AreSameOnPage page from to one other
told_part page from to first end one other told forward here there inside outside is = (
  λ yes address begun ends on.
      let range = inside address begun ends on in
      let at : first + (address - first) ≡ address = omega (arith, range.0) in
      subst (λ at. slice_index_or one at 0 ≡ slice_index_or other at 0) at
      (same_at first (end - first) one other (is.0 yes) (address - first) (omega (arith, range.0, range.1))),
  λ same. is.1
      (same_range first (end - first) one other (omega (arith, forward, here)) (omega (arith, forward, there))
      (λ k less. let range = outside (first + k) (omega arith) (omega (arith, less, forward)) in same (first + k) range.0 range.1 range.2)),
)

-- Lists of pages

-- on each of the first this many pages of a list
abbrev pub AreSameOnFirst : List ℕ → ℕ → (ℕ → Type 0) → ℕ → ℕ → List ℕ → List ℕ → Type 0
AreSameOnFirst pages count counts from to one other = (k : ℕ) → k < count → counts (slice_index_or pages k 0) → AreSameOnPage (slice_index_or pages k 0) from to one other

-- on one page more
pub one_page_more : (pages : List ℕ) (count : ℕ) (counts : ℕ → Type 0) (from to : ℕ) (one other : List ℕ) → AreSameOnFirst pages count counts from to one other
    → (counts (slice_index_or pages count 0) → AreSameOnPage (slice_index_or pages count 0) from to one other) → AreSameOnFirst pages (count + 1) counts from to one other
one_page_more pages count counts from to one other so_far next =
    below_more (λ k. counts (slice_index_or pages k 0) → AreSameOnPage (slice_index_or pages k 0) from to one other) count so_far next

-- on all pages of a list
pub on_all_pages : (pages : List ℕ) (count : ℕ) (counts : ℕ → Type 0) (from to : ℕ) (one other : List ℕ) → ¬ (count < length pages) → AreSameOnFirst pages count counts from to one other
    → (page : ℕ) → Contains pages page → counts page → AreSameOnPage page from to one other
on_all_pages pages count counts from to one other all same page (k, within, is) so =
    let number : slice_index_or pages k 0 ≡ page = sym (get_or_default_zero pages k page within) ∙ is in
    subst (λ page. counts page → AreSameOnPage page from to one other) number (same k (omega (arith, all, within))) so

-- a page of a list is in the list
pub is_of_list : (pages : List ℕ) (k : ℕ) → k < length pages → Contains pages (slice_index_or pages k 0)
is_of_list pages k within = (k, within, get_or_default_zero pages k (slice_index_or pages k 0) within)

-- Two memories

-- on the pages that the one has
abbrev pub AreSameOnOwn : ℕ → ℕ → Contents → Contents → Type 0
AreSameOnOwn from to one other = (page : ℕ) → Contains one.promised page → AreSameOnPage page from to one.bytes other.bytes

-- on those that the other has and the one hasn't
abbrev pub AreSameOnFurther : ℕ → ℕ → Contents → Contents → Type 0
AreSameOnFurther from to one other = (page : ℕ) → Contains other.promised page → ¬ Contains one.promised page → AreSameOnPage page from to one.bytes other.bytes

module _ (memory another : Inside) (is : IsMemory memory) (are : IsMemory another) (from to : ℕ) (here : to ≤ memory.len) (there : to ≤ another.len) where
  -- an address lies on a page that the one has, or that only the other has, or that none has: there both have zeros
  by_pages : AreSameOnOwn from to (contents_seen memory) (contents_seen another) → AreSameOnFurther from to (contents_seen memory) (contents_seen another)
      → (address : ℕ) → from ≤ address → address < to → (has others : Bool) → is_some (page_at memory.pages.groups.items (address / 512)) ≡ has → is_some (page_at another.pages.groups.items (address / 512)) ≡ others
      → slice_index_or (contents_seen memory).bytes address 0 ≡ slice_index_or (contents_seen another).bytes address 0
  by_pages own further address begun ends true others found found' = own (address / 512) (is.among (address / 512) found) address begun ends refl
  by_pages own further address begun ends false true found found' =
      further (address / 512) (are.among (address / 512) found') (λ has. false≢true (sym found ∙ is.there (address / 512) has)) address begun ends refl
  by_pages own further address begun ends false false found found' =
      byte-bytes_in (page_at memory.pages.groups.items) memory.len address 0 (omega (arith, ends, here)) ∙ byte_of_none (page_at memory.pages.groups.items (address / 512)) (address % 512) (λ some. false≢true (sym found ∙ some))
      ∙ sym (byte-bytes_in (page_at another.pages.groups.items) another.len address 0 (omega (arith, ends, there)) ∙ byte_of_none (page_at another.pages.groups.items (address / 512)) (address % 512) (λ some. false≢true (sym found' ∙ some)))

  -- so where both parts are the same, all is, as contracts see it
  pub same_between : (one other : Contents) → contents_seen memory ≡ one → contents_seen another ≡ other → AreSameOnOwn from to one other → AreSameOnFurther from to one other → AreSameBetween from to one.bytes other.bytes
  same_between one other seen shown =
      subst (λ (one : Contents). AreSameOnOwn from to one other → AreSameOnFurther from to one other → AreSameBetween from to one.bytes other.bytes) seen
      (subst (λ (other : Contents). AreSameOnOwn from to (contents_seen memory) other → AreSameOnFurther from to (contents_seen memory) other → AreSameBetween from to (contents_seen memory).bytes other.bytes) shown
      (λ own further address begun ends.
      by_pages own further address begun ends (is_some (page_at memory.pages.groups.items (address / 512))) (is_some (page_at another.pages.groups.items (address / 512))) refl refl))

-- what the table of pages says of a page, contracts see too
pub not_promised : (memory : Inside) (contents : Contents) → IsMemory memory → contents_seen memory ≡ contents → (page : ℕ) → ¬ IsSome (page_at memory.pages.groups.items page) → ¬ Contains contents.promised page
not_promised memory contents is seen page absent =
    subst (λ (contents : Contents). ¬ Contains contents.promised page) seen (λ has. absent (is.there page has))

-- and of one that it has
pub is_promised : (memory : Inside) (contents : Contents) → IsMemory memory → contents_seen memory ≡ contents → (page : ℕ) → IsSome (page_at memory.pages.groups.items page) → Contains contents.promised page
is_promised memory contents is seen page some = subst (λ (contents : Contents). Contains contents.promised page) seen (is.among page some)
