-- A memory in pages: what its bytes are at each address, and what one page read, written or added does to them.
use Rattle.std.proofs.Common.{◌≡◌, ◌≢◌, ◌⊎◌, ℕ, ◌+◌, ◌-◌, ◌/◌, ◌%◌, ◌<◌, ◌≤◌, Option, Some, None, IfSome, IsSome, option_map, List, length, get_or, drop, replicate, refl, sym, ap, subst, ◌∙◌, rules, inl, inr, ⊎_elim, arith}
use borrow.Rule.Slice.PartMut.{mid_of, put_mid}
use Rattle.std.specs.Global.{Box}
use Rattle.std.specs.Option.{IsSomeAnd}
use Rattle.std.proofs.lemmas.Bool.{cases_lt, cases_eq, false≢true}
use Rattle.std.proofs.lemmas.Grind.{get_or_default_zero}
use Rattle.std.proofs.lemmas.List.{places, same_lists, get_or-drop, get_or-replicate, get_or-take, length-replicate}
use Rattle.std.proofs.lemmas.List.FromFn.{length-map-range_with_len, get_or-map-range_with_len}
use Rattle.std.proofs.lemmas.Slice.{overwrites}
use Rattle.host_memory.specs.Memory.{Contents, bytes_at, written}
use Rattle.host_memory.specs.Pages.{PagesFound, byte_on, memory_byte_in, memory_bytes_in, page_with_bytes}
use Rattle.host_memory.proofs.Writes.{length-written, written_inside, written_outside}

-- all pages but this one are the same
abbrev pub IsElsewhereTheSame : PagesFound → PagesFound → ℕ → Type 0
IsElsewhereTheSame pages new page = (other : ℕ) → other ≢ page → new other ≡ pages other

-- A memory in pages shows as many bytes as its length says.
pub length-bytes_in : (pages : PagesFound) (len : ℕ) → length (memory_bytes_in pages len) ≡ len
length-bytes_in pages len = length-map-range_with_len (memory_byte_in pages) 0 len

-- A memory in pages shows at each address below its length the byte that the address's page has there.
pub byte-bytes_in : (pages : PagesFound) (len k d : ℕ) → k < len → get_or (memory_bytes_in pages len) k d ≡ memory_byte_in pages k
byte-bytes_in pages len k d within = get_or-map-range_with_len (memory_byte_in pages) 0 len k k d within (omega arith)

-- with no page all is zeros
pub bytes_in-none : (pages : PagesFound) (len : ℕ) → ((page : ℕ) → pages page ≡ None) → memory_bytes_in pages len ≡ replicate len 0
bytes_in-none pages len empty =
    same_lists _ _ (length-bytes_in pages len ∙ sym (length-replicate len 0))
    (λ k d h.
    let within : k < len = subst (λ n. k < n) (length-bytes_in pages len) h in
    byte-bytes_in pages len k d within ∙ ap (λ found. byte_on found (k % 512)) (empty (k / 512)) ∙ sym (get_or-replicate len k 0 d within))

-- the same pages hold the same bytes
pub bytes_in-same : (pages new : PagesFound) (len : ℕ) → ((page : ℕ) → new page ≡ pages page) → memory_bytes_in new len ≡ memory_bytes_in pages len
bytes_in-same pages new len same =
    same_lists _ _ (length-bytes_in new len ∙ sym (length-bytes_in pages len))
    (λ k d h.
    let within : k < len = subst (λ n. k < n) (length-bytes_in new len) h in
    byte-bytes_in new len k d within ∙ ap (λ found. byte_on found (k % 512)) (same (k / 512)) ∙ sym (byte-bytes_in pages len k d within))

-- the page and the place of an address that lies after another one on its page
pub same_page : (at k : ℕ) → at % 512 + k < 512 → ((at + k) / 512 ≡ at / 512) × ((at + k) % 512 ≡ at % 512 + k)
same_page at k fits = (omega arith, omega arith)

-- what a view says of bytes
pub bytes_seen : (pages : PagesFound) (len : ℕ) (contents : Contents) (seen : Contents) → seen ≡ contents → seen.bytes ≡ memory_bytes_in pages len → memory_bytes_in pages len ≡ contents.bytes
bytes_seen pages len contents seen e same = sym same ∙ ap (λ (c : Contents). c.bytes) e

-- a byte of the middle of a list
pub middle : (xs ys : List ℕ) (start end n k : ℕ) → ys ≡ mid_of start (end - start) xs → end ≡ start + n → k < n → get_or ys k 0 ≡ get_or xs (start + k) 0
middle xs ys start end n k is size within =
    ap (λ zs. get_or zs k 0) is ∙ (get_or-take (end - start) (drop start xs) k 0 (omega (arith, size, within)) ∙ get_or-drop start xs k 0)

-- the middle of a list, written over
pub middle_written : (xs xs' ys ys' : List ℕ) (start end : ℕ) → xs ≡ xs' → ys ≡ ys' → end ≡ start + length ys' → start + length ys' ≤ length xs'
    → put_mid start (end - start) xs ys ≡ written start ys' xs'
middle_written xs xs' ys ys' start end same_xs same_ys size fits =
    ap (λ (zs : List ℕ). put_mid start (end - start) zs ys) same_xs ∙ ap (λ zs. put_mid start (end - start) xs' zs) same_ys
    ∙ search (rules, overwrites)

-- one page, read
read_piece : (pages : PagesFound) (len at n : ℕ) (out : List ℕ) → at + n ≤ len → at % 512 + n ≤ 512 → length out ≡ n
    → ((k : ℕ) → k < n → get_or out k 0 ≡ byte_on (pages (at / 512)) (at % 512 + k))
    → out ≡ bytes_at at n (memory_bytes_in pages len)
read_piece pages len at n out within one_page size same =
    same_lists _ _ (let l = length-bytes_in pages len in grind (arith, places))
    (λ k d h.
    let k<n : k < n = omega (arith, h, size) in
    let there = same_page at k (omega (arith, within, one_page, k<n)) in
    let found : byte_on (pages (at / 512)) (at % 512 + k) ≡ memory_byte_in pages (at + k) =
    sym (ap (λ page. byte_on (pages page) ((at + k) % 512)) there.0 ∙ ap (λ place. byte_on (pages (at / 512)) place) there.1) in
    get_or_default_zero out k d h ∙ same k k<n ∙ found
    ∙ sym (byte-bytes_in pages len (at + k) d (omega (arith, within, k<n)))
    ∙ sym (get_or-drop at (memory_bytes_in pages len) k d)
    ∙ sym (get_or-take n (drop at (memory_bytes_in pages len)) k d k<n))

-- the same of the bytes that the memory shows
pub read_shown : (pages : PagesFound) (len at n : ℕ) (out shown : List ℕ) → memory_bytes_in pages len ≡ shown → at + n ≤ length shown → at % 512 + n ≤ 512 → length out ≡ n
    → ((k : ℕ) → k < n → get_or out k 0 ≡ byte_on (pages (at / 512)) (at % 512 + k)) → out ≡ bytes_at at n shown
read_shown pages len at n out shown seen within one_page size same =
    rw (sym seen) (read_piece pages len at n out (subst (λ m. at + n ≤ m) (ap length (sym seen) ∙ length-bytes_in pages len) within) one_page size same)

-- a page of zeros, added
pub zeros_added : (pages new : PagesFound) (page : ℕ) → ¬ IsSome (pages page) → IsSomeAnd (new page) (λ zeros. zeros.value ≡ replicate 512 0) → IsElsewhereTheSame pages new page
    → (len : ℕ) → memory_bytes_in new len ≡ memory_bytes_in pages len
zeros_added pages new page absent blank others len =
    same_lists _ _ (length-bytes_in new len ∙ sym (length-bytes_in pages len))
    (λ k d h.
    let within : k < len = subst (λ n. k < n) (length-bytes_in new len) h in
    byte-bytes_in new len k d within ∙ reads k (cases_eq (k / 512) page) ∙ sym (byte-bytes_in pages len k d within))
  where
    zero_on : (found : Option (Box (List ℕ))) (place : ℕ) → IsSomeAnd found (λ zeros. zeros.value ≡ replicate 512 0) → place < 512 → byte_on found place ≡ 0
    zero_on None place blank within = absurd blank
    zero_on (Some zeros) place blank within = ap (λ bytes. get_or bytes place 0) blank ∙ get_or-replicate 512 place 0 0 within

    none_on : (found : Option (Box (List ℕ))) (place : ℕ) → ¬ IsSome found → byte_on found place ≡ 0
    none_on None place absent = refl
    none_on (Some other) place absent = absurd (absent refl)

    reads : (k : ℕ) → (k / 512 ≡ page) ⊎ (k / 512 ≢ page) → memory_byte_in new k ≡ memory_byte_in pages k
    reads k (inl same) =
        ap (λ q. byte_on (new q) (k % 512)) same ∙ zero_on (new page) (k % 512) blank (omega arith)
        ∙ sym (ap (λ q. byte_on (pages q) (k % 512)) same ∙ none_on (pages page) (k % 512) absent)
    reads k (inr differs) = ap (λ found. byte_on found (k % 512)) (others (k / 512) differs)

-- one page, written
pub write_piece : (pages new : PagesFound) (len at : ℕ) (piece : List ℕ) (page page' : Box (List ℕ)) → at + length piece ≤ len → at % 512 + length piece ≤ 512
    → pages (at / 512) ≡ Some page
    → new (at / 512) ≡ Some page'
    → IsElsewhereTheSame pages new (at / 512)
    → length page.value ≡ 512
    → page'.value ≡ written (at % 512) piece page.value
    → memory_bytes_in new len ≡ written at piece (memory_bytes_in pages len)
write_piece pages new len at piece page page' within one_page there put others whole changed =
    same_lists _ _ (sizes ∙ sym (length-written at piece (memory_bytes_in pages len) (lies_in)))
    (λ k d h.
    let k<len : k < len = subst (λ n. k < n) (length-bytes_in new len) h in
    byte-bytes_in new len k d k<len ∙ ⊎_elim (λ below. elsewhere k d k<len (inl below)) (λ not_below. ⊎_elim (λ hit. written_here k d k<len not_below hit) (λ behind. elsewhere k d k<len (inr behind)) (cases_lt k (at + length piece))) (cases_lt k at))
  where
    lies_in : at + length piece ≤ length (memory_bytes_in pages len)
    lies_in = rw (length-bytes_in pages len) within

    sizes : length (memory_bytes_in new len) ≡ length (memory_bytes_in pages len)
    sizes = length-bytes_in new len ∙ sym (length-bytes_in pages len)

    fits : at % 512 + length piece ≤ length page.value
    fits = rw whole one_page

    inside : (k : ℕ) → k < length piece → get_or page'.value (at % 512 + k) 0 ≡ get_or piece k 0
    inside k h =
        ap (λ bytes. get_or bytes (at % 512 + k) 0) changed
        ∙ written_inside (at % 512) piece page.value fits (at % 512 + k) 0 (omega arith) (omega (arith, h))
        ∙ ap (λ i. get_or piece i 0) (omega arith)

    outside : (i : ℕ) → (i < at % 512) ⊎ (at % 512 + length piece ≤ i) → get_or page'.value i 0 ≡ get_or page.value i 0
    outside i apart = ap (λ bytes. get_or bytes i 0) changed ∙ written_outside (at % 512) piece page.value fits i 0 apart

    -- an address on the page
    on_page : (k : ℕ) → k / 512 ≡ at / 512 → memory_byte_in new k ≡ get_or page'.value (k % 512) 0
    on_page k same = ap (λ q. byte_on (new q) (k % 512)) same ∙ ap (λ found. byte_on found (k % 512)) put

    was_on_page : (k : ℕ) → k / 512 ≡ at / 512 → memory_byte_in pages k ≡ get_or page.value (k % 512) 0
    was_on_page k same = ap (λ q. byte_on (pages q) (k % 512)) same ∙ ap (λ found. byte_on found (k % 512)) there

    stays : (k : ℕ) → (k < at) ⊎ (at + length piece ≤ k) → (k / 512 ≡ at / 512) ⊎ (k / 512 ≢ at / 512) → memory_byte_in new k ≡ memory_byte_in pages k
    stays k apart (inl same) =
        on_page k same ∙ outside (k % 512) (⊎_elim (λ h. inl (omega (arith, same, h))) (λ h. inr (omega (arith, same, h, one_page))) apart) ∙ sym (was_on_page k same)
    stays k apart (inr differs) = ap (λ found. byte_on found (k % 512)) (others (k / 512) differs)

    written_here : (k d : ℕ) → k < len → at ≤ k → k < at + length piece → memory_byte_in new k ≡ get_or (written at piece (memory_bytes_in pages len)) k d
    written_here k d k<len not_below hit =
        let place : (k / 512 ≡ at / 512) × (k % 512 ≡ at % 512 + (k - at)) = (omega (arith, not_below, hit, one_page), omega (arith, not_below, hit, one_page)) in
        let j : k - at < length piece = omega (arith, not_below, hit) in
        on_page k place.0 ∙ ap (λ i. get_or page'.value i 0) place.1 ∙ inside (k - at) j ∙ sym (get_or_default_zero piece (k - at) d j)
        ∙ sym (written_inside at piece (memory_bytes_in pages len) lies_in k d not_below hit)

    elsewhere : (k d : ℕ) → k < len → (k < at) ⊎ (at + length piece ≤ k) → memory_byte_in new k ≡ get_or (written at piece (memory_bytes_in pages len)) k d
    elsewhere k d k<len apart =
        stays k apart (cases_eq (k / 512) (at / 512))
        ∙ sym (byte-bytes_in pages len k d k<len)
        ∙ sym (written_outside at piece (memory_bytes_in pages len) lies_in k d (⊎_elim (λ h. inl (omega (arith, h))) (λ h. inr h) apart))

-- the same where the page is known by its number
pub page_written : (pages new : PagesFound) (len at : ℕ) (piece : List ℕ) → at + length piece ≤ len → at % 512 + length piece ≤ 512
    → new (at / 512) ≡ option_map (page_with_bytes (at % 512) piece) (pages (at / 512))
    → IsElsewhereTheSame pages new (at / 512)
    → IfSome (pages (at / 512)) (λ page. length page.value ≡ 512)
    → IsSome (pages (at / 512))
    → memory_bytes_in new len ≡ written at piece (memory_bytes_in pages len)
page_written pages new len at piece within one_page put others whole there = at_page (pages (at / 512)) refl put whole there
  where
    at_page : (found : Option (Box (List ℕ))) → pages (at / 512) ≡ found → new (at / 512) ≡ option_map (page_with_bytes (at % 512) piece) found
        → IfSome found (λ page. length page.value ≡ 512) → IsSome found → memory_bytes_in new len ≡ written at piece (memory_bytes_in pages len)
    at_page None is put whole there = absurd (false≢true there)
    at_page (Some page) is put whole there = write_piece pages new len at piece page (page_with_bytes (at % 512) piece page) within one_page is put others whole refl
