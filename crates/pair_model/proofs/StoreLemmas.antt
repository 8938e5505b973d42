-- What is read of a memory after a store: a store elsewhere leaves it, a store there is read back, and words are read
-- back as they were written. A list of stores leaves, or gives, what is read where its stores do.
use Rattle.std.proofs.Common.{◌≡◌, ℕ, zero, suc, ◌+◌, ◌-◌, ◌<◌, ◌≤◌, ◌⊎◌, inl, inr, ⊎_elim, List, [], ◌∷◌, ◌++◌, length, map, take, drop, get_or, replicate, refl, sym, ap, ◌∙◌, subst, arith, append_assoc}
use Rattle.std.specs.Prelude.{◌≢◌, ◌^◌, slice_index}
use Rattle.std.specs.List.{flat_map}
use Rattle.std.proofs.lemmas.Bool.{cases_eq, cases_lt, cond-true, cond-false}
use Rattle.std.proofs.lemmas.Bool.Decides.{nat_tests}
use Rattle.std.proofs.lemmas.Grind.{common_steps}
use Rattle.std.proofs.lemmas.List.{append-nil, get_or_default, places, same_lists}
use Rattle.byteorder.specs.Endian.{little_from, little_number}
use Rattle.byteorder.specs.Numbers.{little_number-reads_back, length-bytes_low_first}
use Rattle.lane_model.specs.Lane.{count_from, overwritten}
use Rattle.ring_geometry.specs.Laws.{StandApart}
use Rattle.pair_model.specs.Headers.{word_bytes}
use Rattle.pair_model.specs.Stores.{Store, covers, byte_in, bytes_in}

-- One byte

byte_elsewhere : (store : Store) (older : List Store) (address : ℕ) → (address < store.at) ⊎ (store.at + length store.bytes ≤ address) → byte_in (store ∷ older) address ≡ byte_in older address
byte_elsewhere store older address apart = cond-false (covers store address) _ _ (⊎_elim (λ before. grind (arith, nat_tests, before)) (λ behind. grind (arith, nat_tests, behind)) apart)

byte_stored : (store : Store) (older : List Store) (address : ℕ) → store.at ≤ address → address < store.at + length store.bytes
    → byte_in (store ∷ older) address ≡ slice_index store.bytes (address - store.at)
byte_stored store older address from to = cond-true (covers store address) _ _ (grind (arith, nat_tests))

-- Bytes one after the other

length-bytes_in : (stores : List Store) (at len : ℕ) → length (bytes_in stores at len) ≡ len
length-bytes_in stores at zero = refl
length-bytes_in stores at (suc len) = ap suc (length-bytes_in stores (suc at) len)

get_or-bytes_in : (stores : List Store) (at len k d : ℕ) → k < len → get_or (bytes_in stores at len) k d ≡ byte_in stores (at + k)
get_or-bytes_in stores at zero k d below = absurd (omega arith)
get_or-bytes_in stores at (suc len) zero d below = ap (byte_in stores) (omega arith)
get_or-bytes_in stores at (suc len) (suc k) d below =
    let same : suc at + k ≡ at + suc k = omega arith in
    get_or-bytes_in stores (suc at) len k d (omega arith) ∙ ap (byte_in stores) same

-- A store leaves what is read of a stretch of memory with which it shares no byte.
pub bytes_elsewhere : (store : Store) (older : List Store) (at len : ℕ) → StandApart at len store.at (length store.bytes) → bytes_in (store ∷ older) at len ≡ bytes_in older at len
bytes_elsewhere store older at len apart = same_lists _ _ (length-bytes_in (store ∷ older) at len ∙ sym (length-bytes_in older at len)) (λ k d within.
    let below : k < len = omega (arith, length-bytes_in (store ∷ older) at len) in
    get_or-bytes_in (store ∷ older) at len k d below
    ∙ byte_elsewhere store older (at + k) (⊎_elim (λ before. inl (omega (arith, before, below))) (λ behind. inr (omega (arith, behind))) apart)
    ∙ sym (get_or-bytes_in older at len k d below))

-- some of the bytes that a store brought
pub bytes_stored : (store : Store) (older : List Store) (offset at len : ℕ) → at ≡ store.at + offset → offset + len ≤ length store.bytes
    → bytes_in (store ∷ older) at len ≡ take len (drop offset store.bytes)
bytes_stored store older offset at len there within = same_lists _ _ (let e = length-bytes_in (store ∷ older) at len in grind (arith, places)) (λ k d inside.
    let below : k < len = omega (arith, length-bytes_in (store ∷ older) at len) in
    let place : at + k - store.at ≡ offset + k = omega arith in
    get_or-bytes_in (store ∷ older) at len k d below
    ∙ byte_stored store older (at + k) (omega arith) (omega arith)
    ∙ ap (slice_index store.bytes) place
    ∙ grind (arith, common_steps))

-- bytes written over others, by place
over_before : (at : ℕ) (bytes old : List ℕ) (k d : ℕ) → at + length bytes ≤ length old → k < at → get_or (overwritten at bytes old) k d ≡ get_or old k d
over_before at bytes old k d fits before = grind (arith, common_steps)

over_within : (at : ℕ) (bytes old : List ℕ) (k d : ℕ) → at + length bytes ≤ length old → at ≤ k → k < at + length bytes → get_or (overwritten at bytes old) k d ≡ get_or bytes (k - at) d
over_within at bytes old k d fits from to = grind (arith, common_steps)

over_behind : (at : ℕ) (bytes old : List ℕ) (k d : ℕ) → at + length bytes ≤ length old → at + length bytes ≤ k → get_or (overwritten at bytes old) k d ≡ get_or old k d
over_behind at bytes old k d fits behind = grind (arith, common_steps)

length-over : (at : ℕ) (bytes old : List ℕ) → at + length bytes ≤ length old → length (overwritten at bytes old) ≡ length old
length-over at bytes old fits = grind (arith, common_steps)

-- a store within the bytes that are read
pub bytes_over : (store : Store) (older : List Store) (at offset len : ℕ) → store.at ≡ at + offset → offset + length store.bytes ≤ len
    → bytes_in (store ∷ older) at len ≡ overwritten offset store.bytes (bytes_in older at len)
bytes_over store older at offset len there within =
    same_lists _ _ (length-bytes_in (store ∷ older) at len ∙ sym (length-over offset store.bytes old fits ∙ length-bytes_in older at len)) each
  where
    old : List ℕ
    old = bytes_in older at len

    fits : offset + length store.bytes ≤ length (bytes_in older at len)
    fits = omega (arith, length-bytes_in older at len)

    each : (k d : ℕ) → k < length (bytes_in (store ∷ older) at len) → get_or (bytes_in (store ∷ older) at len) k d ≡ get_or (overwritten offset store.bytes (bytes_in older at len)) k d
    each k d inside =
        let below : k < len = omega (arith, length-bytes_in (store ∷ older) at len) in
        let new = get_or-bytes_in (store ∷ older) at len k d below in
        let kept = get_or-bytes_in older at len k d below in
        elim (cases_lt k offset) [
          | inl before ↦ new ∙ byte_elsewhere store older (at + k) (inl (omega arith)) ∙ sym kept ∙ sym (over_before offset store.bytes (bytes_in older at len) k d fits before)
          | inr from ↦ elim (cases_lt k (offset + length store.bytes)) [
            | inl to ↦
                let place : at + k - store.at ≡ k - offset = omega arith in
                new ∙ byte_stored store older (at + k) (omega arith) (omega arith) ∙ ap (slice_index store.bytes) place
                ∙ get_or_default store.bytes (k - offset) 0 d (omega arith)
                ∙ sym (over_within offset store.bytes (bytes_in older at len) k d fits from to)
            | inr behind ↦ new ∙ byte_elsewhere store older (at + k) (inr (omega arith)) ∙ sym kept ∙ sym (over_behind offset store.bytes (bytes_in older at len) k d fits behind)
          ]
        ]

-- where nothing was stored all bytes are zero
pub nothing_stored : (at len : ℕ) → bytes_in [] at len ≡ replicate len 0
nothing_stored at zero = refl
nothing_stored at (suc len) = ap (λ bytes. 0 ∷ bytes) (nothing_stored (suc at) len)

-- Words

-- the number that four bytes say
abbrev pub number_of : List ℕ → ℕ
number_of bytes = little_number 4 bytes

-- A number is written as a word of four bytes, whatever its value.
pub length-word_bytes : (value : ℕ) → length (word_bytes value) ≡ 4
length-word_bytes value = length-bytes_low_first 0 4 value

word_back : (value : ℕ) → value < 2 ^ 32 → little_number 4 (word_bytes value) ≡ value
word_back value small = ap (λ xs. little_from 0 4 xs) (sym (append-nil (word_bytes value))) ∙ little_number-reads_back 4 value [] (omega arith)

-- a word that was written, alone or among others
pub word_stored : (store : Store) (older : List Store) (offset at value : ℕ) → at ≡ store.at + offset → offset + 4 ≤ length store.bytes → take 4 (drop offset store.bytes) ≡ word_bytes value → value < 2 ^ 32
    → number_of (bytes_in (store ∷ older) at 4) ≡ value
word_stored store older offset at value there within is small = ap (little_number 4) (bytes_stored store older offset at 4 there within ∙ is) ∙ word_back value small

-- What a list of stores does to what is read of a memory

-- it leaves it, whatever was stored before
abbrev pub Leaves : {X : Type 0} → (List Store → X) → List Store → Type 0
Leaves read new = (older : List Store) → read (new ++ older) ≡ read older

-- it gives it a value
abbrev pub Gives : {X : Type 0} → (List Store → X) → List Store → X → Type 0
Gives read new value = (older : List Store) → read (new ++ older) ≡ value

module _ {X : Type 0} (read : List Store → X) where
  leaves_none : Leaves read []
  leaves_none older = refl

  pub leaves_both : (first second : List Store) → Leaves read first → Leaves read second → Leaves read (first ++ second)
  leaves_both first second one other older = ap read (append_assoc first second older) ∙ one (second ++ older) ∙ other older

  pub gives_first : (first second : List Store) (value : X) → Gives read first value → Gives read (first ++ second) value
  gives_first first second value gives older = ap read (append_assoc first second older) ∙ gives (second ++ older)

  pub gives_later : (first second : List Store) (value : X) → Leaves read first → Gives read second value → Gives read (first ++ second) value
  gives_later first second value leaves gives older = ap read (append_assoc first second older) ∙ leaves (second ++ older) ∙ gives older

  -- the same of lists for each of some numbers
  pub leaves_each : (make : ℕ → List Store) (from more : ℕ) → ((k : ℕ) → from ≤ k → k < from + more → Leaves read (make k)) → Leaves read (flat_map make (count_from from more))
  leaves_each make from zero each = leaves_none
  leaves_each make from (suc more) each =
      leaves_both (make from) (flat_map make (count_from (suc from) more)) (each from (omega arith) (omega arith)) (leaves_each make (suc from) more (λ k low high. each k (omega arith) (omega arith)))

  pub gives_among : (make : ℕ → List Store) (from more n : ℕ) (value : X) → from ≤ n → n < from + more → Gives read (make n) value
      → ((k : ℕ) → k < from + more → k ≢ n → Leaves read (make k)) → Gives read (flat_map make (count_from from more)) value
  gives_among make from zero n value low high gives others = absurd (omega arith)
  gives_among make from (suc more) n value low high gives others = elim (cases_eq from n) [
    | inl here ↦ gives_first (make from) (flat_map make (count_from (suc from) more)) value (subst (λ k. Gives read (make k) value) (sym here) gives)
    | inr later ↦
        gives_later (make from) (flat_map make (count_from (suc from) more)) value (others from (omega arith) later)
        (gives_among make (suc from) more n value (omega arith) (omega arith) gives (λ k below other. others k (omega arith) other))
  ]

  -- and of one store for each of some numbers
  pub leaves_mapped : (make : ℕ → Store) (from more : ℕ) → ((k : ℕ) → from ≤ k → k < from + more → Leaves read (make k ∷ [])) → Leaves read (map make (count_from from more))
  leaves_mapped make from zero each = leaves_none
  leaves_mapped make from (suc more) each =
      leaves_both (make from ∷ []) (map make (count_from (suc from) more)) (each from (omega arith) (omega arith)) (leaves_mapped make (suc from) more (λ k low high. each k (omega arith) (omega arith)))

  pub gives_mapped : (make : ℕ → Store) (from more n : ℕ) (value : X) → from ≤ n → n < from + more → Gives read (make n ∷ []) value
      → ((k : ℕ) → k < from + more → k ≢ n → Leaves read (make k ∷ [])) → Gives read (map make (count_from from more)) value
  gives_mapped make from zero n value low high gives others = absurd (omega arith)
  gives_mapped make from (suc more) n value low high gives others = elim (cases_eq from n) [
    | inl here ↦ gives_first (make from ∷ []) (map make (count_from (suc from) more)) value (subst (λ k. Gives read (make k ∷ []) value) (sym here) gives)
    | inr later ↦
        gives_later (make from ∷ []) (map make (count_from (suc from) more)) value (others from (omega arith) later)
        (gives_mapped make (suc from) more n value (omega arith) (omega arith) gives (λ k below other. others k (omega arith) other))
  ]
