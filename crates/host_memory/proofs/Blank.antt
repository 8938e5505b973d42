-- Ranges of a memory of which no page is there.
use borrow.Author.Count.{below_more}
use Rattle.std.proofs.Common.{◌≡◌, ◌↔◌, IsTrue, ℕ, ◌+◌, ◌-◌, ◌/◌, ◌%◌, ◌<◌, ◌≤◌, Option, Some, None, IsSome, is_some, option_copied, Bool, true, false, Bor, List, length, slice_index_or, refl, ap, sym, ◌∙◌, subst, arith}
use Rattle.std.proofs.lemmas.Bool.{false≢true}
use Rattle.std.proofs.lemmas.Grind.{get_or_default_zero}
use Rattle.std.specs.Global.{Box}
use Rattle.host_memory.specs.Inside.{IsMemory, contents_seen}
use Rattle.host_memory.specs.Memory.{AreAbsent, AreNotAmong, AreZero, Contents, page_of}
use Rattle.host_memory.specs.Pages.{byte_on, page_at}
use Rattle.host_memory.specs.declared.memory.Memory.TheInside.{Inside}
use Rattle.host_memory.proofs.MemoryPages.{byte-bytes_in, length-bytes_in}
use Rattle.host_memory.proofs.Pieces.{touched_between, touches_between}

-- on a page that isn't there each byte is zero
pub byte_of_none : (page : Option (Box (List ℕ))) (place : ℕ) → ¬ IsSome page → byte_on page place ≡ 0
byte_of_none None place none = refl
byte_of_none (Some page) place none = absurd (none refl)

-- what a test of a page tells of it
told_is : {X : Type 0} (got : Option (Bor X)) (page : Option X) (told : Bool) → option_copied got ≡ page → told ≡ is_some got → is_some page ≡ told
told_is None page told same is = ap is_some (sym same) ∙ sym is
told_is (Some x) page told same is = ap is_some (sym same) ∙ sym is

-- If the test of a page that was looked up says that it is there, the page is there.
pub told_there : {X : Type 0} (got : Option (Bor X)) (page : Option X) (told : Bool) → option_copied got ≡ page → told ≡ is_some got → told ≡ true → IsSome page
told_there got page told same is so = told_is got page told same is ∙ so

-- If the test of a page that was looked up says that it isn't there, there is no such page.
pub told_absent : {X : Type 0} (got : Option (Bor X)) (page : Option X) (told : Bool) → option_copied got ≡ page → told ≡ is_some got → told ≡ false → ¬ IsSome page
told_absent got page told same is so some = false≢true (sym so ∙ (sym (told_is got page told same is) ∙ some))

-- all its bytes are zero
pub absent_zeros : (memory : Inside) (contents : Contents) (at len : ℕ) → IsMemory memory → contents_seen memory ≡ contents → at + len ≤ memory.len
    → AreAbsent at len contents.promised → AreZero at len contents.bytes
absent_zeros memory contents at len is seen within absent = λ i below.
    let here : AreAbsent at len memory.promised.items = subst (λ (c : Contents). AreAbsent at len c.promised) (sym seen) absent in
    let none : ¬ IsSome (page_at memory.pages.groups.items (page_of (at + i))) =
    λ some. here (page_of (at + i)) (at + i, omega arith, omega (arith, below), refl) (is.among (page_of (at + i)) some) in
    subst (λ (c : Contents). slice_index_or c.bytes (at + i) 0 ≡ 0) seen
    (byte-bytes_in (page_at memory.pages.groups.items) memory.len (at + i) 0 (omega (arith, within, below))
    ∙ byte_of_none (page_at memory.pages.groups.items (page_of (at + i))) ((at + i) % 512) none)

-- of the first this many numbers of a list none lies between two others
abbrev pub LieOutside : ℕ → ℕ → ℕ → List ℕ → Type 0
LieOutside first last count numbers = (k : ℕ) → k < count → first ≤ slice_index_or numbers k 0 → ¬ (slice_index_or numbers k 0 ≤ last)

-- If none of a list's first numbers lies in a range, nor the next one, none of one number more lies there.
pub outside_more : (first last count : ℕ) (numbers : List ℕ) → LieOutside first last count numbers → (first ≤ slice_index_or numbers count 0 → ¬ (slice_index_or numbers count 0 ≤ last)) → LieOutside first last (count + 1) numbers
outside_more first last count numbers so_far next = below_more (λ k. first ≤ slice_index_or numbers k 0 → ¬ (slice_index_or numbers k 0 ≤ last)) count so_far next

-- If none of a list's numbers lies between a first and a last page, none of these pages is in the list.
pub outside_all : (first last count : ℕ) (numbers : List ℕ) → ¬ (count < length numbers) → LieOutside first last count numbers → AreNotAmong first last numbers
outside_all first last count numbers all outside page from to (k, within, is) =
    let number : slice_index_or numbers k 0 ≡ page = sym (get_or_default_zero numbers k page within) ∙ is in
    outside k (omega (arith, all, within)) (omega (arith, number, from)) (omega (arith, number, to))

-- A list with a number between a first and a last page has some of these pages.
pub inside_not : (first last k : ℕ) (numbers : List ℕ) → k < length numbers → first ≤ slice_index_or numbers k 0 → slice_index_or numbers k 0 ≤ last → ¬ AreNotAmong first last numbers
inside_not first last k numbers within from to none =
    none (slice_index_or numbers k 0) from to (k, within, get_or_default_zero numbers k (slice_index_or numbers k 0) within)

-- what a test of the pages from a range's first to its last one tells of the range
pub told_blank : (memory : Inside) (contents : Contents) (at len : ℕ) (told : Bool) → IsMemory memory → contents_seen memory ≡ contents → at + len ≤ length contents.bytes → ¬ (len ≡ 0)
    → (IsTrue told ↔ AreNotAmong (at / 512) ((at + len - 1) / 512) contents.promised) → (IsTrue told ↔ AreAbsent at len contents.promised) × (IsTrue told → AreZero at len contents.bytes)
told_blank memory contents at len told is seen within some told_of =
    let size : length contents.bytes ≡ memory.len = ap (λ (c : Contents). length c.bytes) (sym seen) ∙ length-bytes_in (page_at memory.pages.groups.items) memory.len in
    let absent : IsTrue told → AreAbsent at len contents.promised =
    λ yes page touches. let between = touched_between at len page touches in told_of.0 yes page between.0 (omega (arith, between.1)) in (
      (absent, λ none. told_of.1 (λ page from to. none page (touches_between at len page (omega (arith, some)) from (omega (arith, to))))),
      λ yes. absent_zeros memory contents at len is seen (omega (arith, within, size)) (absent yes),
    )
