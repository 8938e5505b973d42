-- The bytes of a memory after what was stored in it.
use Rattle.std.proofs.Common.{◌≡◌, ℕ, zero, suc, ◌+◌, ◌-◌, ◌≤◌, List, [], ◌∷◌, ◌++◌, length, map, take, drop, refl, sym, ap, ◌∙◌, arith}
use Rattle.std.specs.List.{AllByRecursion}
use Rattle.std.proofs.lemmas.List.{drop-map, take-map}
use Rattle.lane_model.specs.Lane.{count_from}
use Rattle.pair_model.specs.Stores.{Store, byte_in, bytes_in}
use Rattle.pair_model.proofs.Facade.{bytes_over}
use Rattle.host_memory.specs.Memory.{bytes_at, written}
use Rattle.bridge_pair.specs.Ends.{bytes_after}

drop-count : (n from len : ℕ) → n ≤ len → drop n (count_from from len) ≡ count_from (from + n) (len - n)
drop-count zero from len within =
    let at : from ≡ from + 0 = omega arith in
    let left : len ≡ len - 0 = omega arith in
    ap (λ at. count_from at len) at ∙ ap (count_from (from + 0)) left
drop-count (suc n) from zero within = absurd (omega arith)
drop-count (suc n) from (suc len) within =
    let at : suc from + n ≡ from + suc n = omega arith in
    let left : len - n ≡ suc len - suc n = omega arith in
    drop-count n (suc from) len (omega arith) ∙ ap (λ at. count_from at (len - n)) at ∙ ap (count_from (from + suc n)) left

take-count : (n from len : ℕ) → n ≤ len → take n (count_from from len) ≡ count_from from n
take-count zero from len within = refl
take-count (suc n) from zero within = absurd (omega arith)
take-count (suc n) from (suc len) within = ap (λ ns. from ∷ ns) (take-count n (suc from) len (omega arith))

-- what is read inside
pub read_inside : (stores : List Store) (size at len : ℕ) → at + len ≤ size → bytes_at at len (bytes_in stores 0 size) ≡ bytes_in stores at len
read_inside stores size at len within =
    ap (take len) (drop-map (byte_in stores) at (count_from 0 size)) ∙ take-map (byte_in stores) len (drop at (count_from 0 size))
    ∙ ap (λ ns. map (byte_in stores) (take len ns)) (drop-count at 0 size (omega arith))
    ∙ ap (map (byte_in stores)) (take-count len (0 + at) (size - at) (omega arith))
    ∙ (let same : 0 + at ≡ at = omega arith in ap (λ from. bytes_in stores from len) same)

-- a store within a memory
abbrev pub IsInside : ℕ → Store → Type 0
IsInside size store = store.at + length store.bytes ≤ size

-- A store within a memory makes of its bytes those with the store's bytes written over them.
pub one_stored : (store : Store) (older : List Store) (size : ℕ) → IsInside size store → bytes_in (store ∷ older) 0 size ≡ written store.at store.bytes (bytes_in older 0 size)
one_stored store older size within = bytes_over store older 0 store.at size (omega arith) within

-- Stores within a memory, written over its bytes one after another, make the bytes that the list of all stores says.
pub all_stored : (stores older : List Store) (size : ℕ) → AllByRecursion (IsInside size) stores → bytes_after stores (bytes_in older 0 size) ≡ bytes_in (stores ++ older) 0 size
all_stored [] older size within = refl
all_stored (store ∷ stores) older size within =
    ap (written store.at store.bytes) (all_stored stores older size within.1) ∙ sym (one_stored store (stores ++ older) size within.0)
