-- What a write does to each byte.
use Rattle.std.proofs.Common.{◌≡◌, ◌⊎◌, ℕ, ◌+◌, ◌-◌, ◌<◌, ◌≤◌, List, length, get_or, take, drop, sym, inl, inr, ⊎_elim, ◌∙◌, ap, lit<, arith}
use Rattle.std.proofs.lemmas.Grind.{common_steps}
use Rattle.std.proofs.lemmas.List.{places, same_lists, get_or-take}
use Rattle.byteorder.specs.Endian.{little_number}
use Rattle.host_memory.specs.Memory.{written, bytes_at, memory_word_at}
use Rattle.host_memory.specs.Laws.{LiesIn, StandsApart}

-- After a write within the memory each address of its range has the byte that was written there.
pub written_inside : (at : ℕ) (bytes mem : List ℕ) → LiesIn at bytes mem → (k d : ℕ) → at ≤ k → k < at + length bytes
    → get_or (written at bytes mem) k d ≡ get_or bytes (k - at) d
written_inside at bytes mem h k d from to = grind (arith, common_steps)

-- a write leaves what stands apart from it
pub written_outside : (at : ℕ) (bytes mem : List ℕ) → LiesIn at bytes mem → (k d : ℕ) → (k < at) ⊎ (at + length bytes ≤ k)
    → get_or (written at bytes mem) k d ≡ get_or mem k d
written_outside at bytes mem h k d apart = grind (arith, common_steps)

-- A write that lies in a memory leaves the memory's length as it was.
pub length-written : (at : ℕ) (bytes mem : List ℕ) → LiesIn at bytes mem → length (written at bytes mem) ≡ length mem
length-written at bytes mem h = grind (arith, common_steps)

-- two memories of one length that agree on a stretch
bytes_at_same : (from len : ℕ) (xs ys : List ℕ) → length xs ≡ length ys
    → ((k d : ℕ) → k < len → get_or xs (from + k) d ≡ get_or ys (from + k) d) → bytes_at from len xs ≡ bytes_at from len ys
bytes_at_same from len xs ys e same =
    same_lists _ _ (grind (arith, places)) (λ k d h. let s = same k d in grind (arith, places))

-- Reading a range apart from a write gives the same bytes before and after the write.
pub reads_elsewhere : (at : ℕ) (bytes mem : List ℕ) → LiesIn at bytes mem → (from len : ℕ)
    → StandsApart from len at (length bytes) → bytes_at from len (written at bytes mem) ≡ bytes_at from len mem
reads_elsewhere at bytes mem h from len apart =
    bytes_at_same from len _ _ (length-written at bytes mem h)
    (λ k d p. written_outside at bytes mem h (from + k) d (⊎_elim (λ before. inl (omega (arith, before, p))) (λ behind. inr (omega (arith, behind))) apart))

-- a word is a number of four bytes
little_number-take : (xs : List ℕ) → little_number 4 (take 4 xs) ≡ little_number 4 xs
little_number-take xs =
    let e0 = get_or-take 4 xs 0 0 (lit< tt) in
    let e1 = get_or-take 4 xs 1 0 (lit< tt) in
    let e2 = get_or-take 4 xs 2 0 (lit< tt) in
    let e3 = get_or-take 4 xs 3 0 (lit< tt) in
    cc

-- A word of four bytes apart from a write is the same before and after the write.
pub word_elsewhere : (at : ℕ) (bytes mem : List ℕ) → LiesIn at bytes mem → (from : ℕ)
    → StandsApart from 4 at (length bytes) → memory_word_at from (written at bytes mem) ≡ memory_word_at from mem
word_elsewhere at bytes mem h from apart =
    sym (little_number-take (drop from (written at bytes mem)))
    ∙ ap (little_number 4) (reads_elsewhere at bytes mem h from 4 apart)
    ∙ little_number-take (drop from mem)
