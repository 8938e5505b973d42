-- Where two memories have the same bytes, as they are or once some are written.
use Rattle.std.proofs.Common.{◌≡◌, ◌∙◌, ℕ, ◌+◌, ◌-◌, ◌<◌, ◌≤◌, List, length, slice_index_or, ap, sym, subst, arith, ⊎_elim}
use Rattle.std.proofs.lemmas.Bool.{cases_lt}
use Rattle.std.proofs.lemmas.Grind.{get_or_default_zero}
use Rattle.std.proofs.lemmas.List.{get_or-drop, get_or-take, places, same_lists}
use Rattle.host_memory.specs.Memory.{AreSameBetween, bytes_at, written}

-- memories of one length that have the same byte at each address have the same bytes
pub all_same : (one other : List ℕ) → length one ≡ length other → AreSameBetween 0 (length one) one other → one ≡ other
all_same one other size same =
    same_lists one other size (λ k d less. get_or_default_zero one k d less ∙ same k (omega arith) less ∙ sym (get_or_default_zero other k d (subst (λ n. k < n) size less)))

-- the bytes of a range, one by one
in_range : (at n k : ℕ) (mem : List ℕ) → k < n → slice_index_or (bytes_at at n mem) k 0 ≡ slice_index_or mem (at + k) 0
in_range at n k mem within = get_or-take n _ k 0 within ∙ get_or-drop at mem k 0

-- what stands at each address once some bytes are written: what stood there before and after them, and they
before_written : (at : ℕ) (bytes mem : List ℕ) (k : ℕ) → at + length bytes ≤ length mem → k < at → slice_index_or (written at bytes mem) k 0 ≡ slice_index_or mem k 0
before_written at bytes mem k within low = grind (arith, places)

within_written : (at : ℕ) (bytes mem : List ℕ) (k : ℕ) → at + length bytes ≤ length mem → k < length bytes → slice_index_or (written at bytes mem) (at + k) 0 ≡ slice_index_or bytes k 0
within_written at bytes mem k within inside = grind (arith, places)

after_written : (at : ℕ) (bytes mem : List ℕ) (k : ℕ) → at + length bytes ≤ length mem → at + length bytes ≤ k → slice_index_or (written at bytes mem) k 0 ≡ slice_index_or mem k 0
after_written at bytes mem k within high = grind (arith, places)

size_written : (at : ℕ) (bytes mem : List ℕ) → at + length bytes ≤ length mem → length (written at bytes mem) ≡ length mem
size_written at bytes mem within = grind (arith, places)

-- so where some are written it is enough that these are there, and all before and after them the same
pub same_after : (at : ℕ) (bytes one other : List ℕ) → at + length bytes ≤ length one → length one ≡ length other → bytes_at at (length bytes) other ≡ bytes → AreSameBetween 0 at one other
    → AreSameBetween (at + length bytes) (length one) one other → written at bytes one ≡ other
same_after at bytes one other within size there before after =
    all_same (written at bytes one) other (size_written at bytes one within ∙ size)
    (λ k from to.
    ⊎_elim
    (λ low. before_written at bytes one k within low ∙ before k from low)
    (λ high.
    ⊎_elim
    (λ inside.
    let place : at + (k - at) ≡ k = omega (arith, high) in
    let less : k - at < length bytes = omega (arith, inside, high) in
    subst (λ k. slice_index_or (written at bytes one) k 0 ≡ slice_index_or other k 0) place
    (within_written at bytes one (k - at) within less ∙ ap (λ (bytes : List ℕ). slice_index_or bytes (k - at) 0) (sym there) ∙ in_range at (length bytes) (k - at) other less))
    (λ above. after_written at bytes one k within above ∙ after k above (subst (λ n. k < n) (size_written at bytes one within) to))
    (cases_lt k (at + length bytes)))
    (cases_lt k at))

-- and then all after them is the same
pub same_beyond : (at : ℕ) (bytes one other : List ℕ) → at + length bytes ≤ length one → written at bytes one ≡ other → AreSameBetween (at + length bytes) (length one) one other
same_beyond at bytes one other within same k above to =
    sym (after_written at bytes one k within above) ∙ ap (λ (bytes : List ℕ). slice_index_or bytes k 0) same
