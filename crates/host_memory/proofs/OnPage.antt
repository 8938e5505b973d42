-- Ranges of a memory that lie on one page: their bytes, if the page is there and where it isn't.
use Rattle.std.proofs.Common.{◌≡◌, ◌↔◌, IsTrue, ℕ, ◌+◌, ◌-◌, ◌/◌, ◌%◌, ◌≤◌, Some, None, Bool, List, length, get_or, replicate, take, refl, sym, ap, ◌∙◌, arith}
use borrow.Rule.Slice.PartMut.{mid_of}
use Rattle.std.specs.Global.{Box}
use Rattle.std.specs.Str.{bytes_eq}
use Rattle.std.proofs.lemmas.Grind.{common_steps}
use Rattle.std.proofs.lemmas.List.{get_or-replicate, length-replicate, take-replicate}
use Rattle.std.proofs.lemmas.Slice.Eq.{bytes_eq-Decides}
use Rattle.host_memory.specs.Memory.{bytes_at}
use Rattle.host_memory.specs.Pages.{PagesFound, byte_on, memory_bytes_in}
use Rattle.host_memory.proofs.MemoryPages.{middle, read_shown}

-- this many bytes of a page
pub length-mid : (start n : ℕ) (bytes : List ℕ) → start + n ≤ length bytes → length (mid_of start (start + n - start) bytes) ≡ n
length-mid start n bytes within = grind (arith, common_steps)

-- its bytes are those of the page that is there
pub read_there : (pages : PagesFound) (len at n : ℕ) (page : Box (List ℕ)) (bytes shown : List ℕ) → memory_bytes_in pages len ≡ shown → at + n ≤ length shown → at % 512 + n ≤ 512
    → Some page ≡ pages (at / 512) → bytes ≡ page.value → length bytes ≡ 512 → mid_of (at % 512) (at % 512 + n - at % 512) bytes ≡ bytes_at at n shown
read_there pages len at n page bytes shown seen within one_page there same size =
    read_shown pages len at n (mid_of (at % 512) (at % 512 + n - at % 512) bytes) shown seen within one_page (length-mid (at % 512) n bytes (omega (arith, one_page, size)))
    (λ k less.
    middle bytes _ (at % 512) (at % 512 + n) n k refl refl less ∙ ap (λ xs. get_or xs (at % 512 + k) 0) same ∙ ap (λ found. byte_on found (at % 512 + k)) there)

-- its bytes are zeros where the page isn't there
pub read_absent : (pages : PagesFound) (len at n : ℕ) (shown : List ℕ) → memory_bytes_in pages len ≡ shown → at + n ≤ length shown → at % 512 + n ≤ 512
    → None ≡ pages (at / 512) → replicate n 0 ≡ bytes_at at n shown
read_absent pages len at n shown seen within one_page none =
    read_shown pages len at n (replicate n 0) shown seen within one_page (length-replicate n 0)
    (λ k less. get_or-replicate n k 0 0 less ∙ ap (λ found. byte_on found (at % 512 + k)) none)

-- what a test of the bytes of two ranges tells of the ranges
pub told_same : (xs ys here there : List ℕ) (told : Bool) → xs ≡ here → ys ≡ there → told ≡ bytes_eq xs ys → IsTrue told ↔ (here ≡ there)
told_same xs ys here there told front behind is =
    let decides = bytes_eq-Decides xs ys in (
      λ yes. sym front ∙ decides.0 (sym is ∙ yes) ∙ behind,
      λ same. is ∙ decides.1 (front ∙ same ∙ sym behind),
    )

-- and what a test for zeros tells of a range on a page that is there and one on a page that isn't
pub told_zeros : (xs here there : List ℕ) (n : ℕ) (told : Bool) → xs ≡ here → length xs ≡ n → replicate n 0 ≡ there → IsTrue told ↔ (xs ≡ replicate (length xs) 0) → IsTrue told ↔ (here ≡ there)
told_zeros xs here there n told front size behind is =
    let zeros : replicate (length xs) 0 ≡ there = ap (λ count. replicate count 0) size ∙ behind in (
      λ yes. sym front ∙ is.0 yes ∙ zeros,
      λ same. is.1 (front ∙ same ∙ sym zeros),
    )

-- bytes are compared with as many of a page of zeros
pub told_zero_page : (bytes : List ℕ) (told : Bool) → length bytes ≤ 512 → told ≡ bytes_eq bytes (take (length bytes) (replicate 512 0)) → IsTrue told ↔ (bytes ≡ replicate (length bytes) 0)
told_zero_page bytes told within is = told_same bytes (take (length bytes) (replicate 512 0)) bytes (replicate (length bytes) 0) told refl (take-replicate (length bytes) 512 0 within) is
