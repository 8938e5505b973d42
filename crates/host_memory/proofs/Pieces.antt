-- A range read, written or promised piece by piece.
use borrow.Rule.Slice.PartMut.{mid_of, put_mid}
use Rattle.std.proofs.Common.{◌≡◌, ℕ, ◌+◌, ◌-◌, ◌*◌, ◌/◌, ◌<◌, ◌≤◌, List, ◌++◌, length, take, refl, ap, ◌∙◌, ⊎_elim, arith, Contains}
use Rattle.std.proofs.lemmas.Bool.{cases_lt}
use Rattle.std.proofs.lemmas.List.{places, same_lists}
use Rattle.std.proofs.lemmas.Slice.{take-put_mid}
use Rattle.host_memory.specs.Memory.{ArePromised, Touches, bytes_at, page_of, written}

-- a page between the first and the last one of a range
pub touches_between : (at len page : ℕ) → 0 < len → at / 512 ≤ page → page < (at + len - 1) / 512 + 1 → Touches at len page
touches_between at len page some from to =
    ⊎_elim (λ inside. (page * 512, omega (arith, inside), omega (arith, some, to), omega arith))
    (λ before. (at, omega arith, omega (arith, some), omega (arith, from, before)))
    (cases_lt at (page * 512))

-- each page of a range is between its first and its last one
pub touched_between : (at len page : ℕ) → Touches at len page → (at / 512 ≤ page) × (page < (at + len - 1) / 512 + 1)
touched_between at len page (address, from, to, on) = (omega (arith, from, on), omega (arith, from, to, on))

-- the page of a byte of a range
pub byte_promised : (at len done : ℕ) (promised : List ℕ) → ArePromised at len promised → done < len → Contains promised (page_of (at + done))
byte_promised at len done promised all within = all (page_of (at + done)) (at + done, omega arith, omega (arith, within), refl)

-- The middle of a list, from one place to a later one within the list, has as many items as lie between them.
pub middle_size : (xs : List ℕ) (done end : ℕ) → done ≤ end → end ≤ length xs → length (mid_of done (end - done) xs) ≡ end - done
middle_size xs done end forward fits = grind (arith, places)

bytes_joined : (mem : List ℕ) (at done end : ℕ) → done ≤ end → at + end ≤ length mem
    → bytes_at at done mem ++ bytes_at (at + done) (end - done) mem ≡ bytes_at at end mem
bytes_joined mem at done end forward within =
    same_lists _ _ (grind (arith, places)) (λ k d h. grind (arith, places))

bytes_at_size : (mem : List ℕ) (at len : ℕ) → at + len ≤ length mem → length (bytes_at at len mem) ≡ len
bytes_at_size mem at len within = grind (arith, places)

-- A buffer that has the first bytes of a range has more of them once the piece that follows is read into it.
pub read_more : (mem out piece : List ℕ) (at done end : ℕ) → take done out ≡ bytes_at at done mem → piece ≡ bytes_at (at + done) (end - done) mem
    → done ≤ end → end ≤ length out → at + end ≤ length mem
    → take end (put_mid done (end - done) out piece) ≡ bytes_at at end mem
read_more mem out piece at done end so_far is forward fits within =
    let size : length piece ≡ end - done = ap length is ∙ bytes_at_size mem (at + done) (end - done) (omega (arith, forward, within)) in
    take-put_mid done (end - done) out piece end (omega (arith, size, forward)) (omega (arith, forward, fits))
    ∙ ap (λ front. front ++ piece) so_far ∙ ap (λ rest. bytes_at at done mem ++ rest) is
    ∙ bytes_joined mem at done end forward within

-- Writing the first of some bytes, and then the piece that follows them, is writing both at once.
pub write_more : (mem bytes piece : List ℕ) (at done end : ℕ) → piece ≡ mid_of done (end - done) bytes → done ≤ end → end ≤ length bytes
    → at + length bytes ≤ length mem
    → written (at + done) piece (written at (take done bytes) mem) ≡ written at (take end bytes) mem
write_more mem bytes piece at done end is forward fits within =
    same_lists _ _ (grind (arith, places)) (λ k d h. grind (arith, places))

-- A range that lies within a promised range of memory is promised.
pub part_promised : (at len from size : ℕ) (promised : List ℕ) → ArePromised at len promised → at ≤ from → from + size ≤ at + len
    → ArePromised from size promised
part_promised at len from size promised all behind fits page (address, first, last, on) =
    all page (address, omega (arith, behind, first), omega (arith, fits, last), on)

-- Two promised ranges, the second of which begins where the first ends, are promised as one range.
pub both_promised : (at len more : ℕ) (promised : List ℕ) → ArePromised at len promised → ArePromised (at + len) more promised
    → ArePromised at (len + more) promised
both_promised at len more promised front rest page (address, first, last, on) =
    ⊎_elim (λ inside. front page (address, first, inside, on)) (λ behind. rest page (address, behind, omega (arith, last), on))
    (cases_lt address (at + len))

-- A promised range stays promised where every page that was promised still is.
pub stays_promised : (at len : ℕ) (promised more : List ℕ) → ArePromised at len promised → ((page : ℕ) → Contains promised page → Contains more page)
    → ArePromised at len more
stays_promised at len promised more all grow page touched = grow page (all page touched)
