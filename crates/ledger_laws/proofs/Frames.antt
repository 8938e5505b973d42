-- The frames of a lane's entries, with their numbers.
use Rattle.std.proofs.Common.{◌≡◌, ℕ, suc, ◌+◌, ◌<◌, ◌==◌, false, List, [], ◌∷◌, ◌++◌, length, take, drop, refl, sym, ap, ◌∙◌, subst, arith, zero, inl, inr}
use Rattle.std.specs.Prelude.{if◌then◌else◌, slice_index_or}
use Rattle.std.proofs.lemmas.List.{take-append-drop}
use Rattle.std.proofs.lemmas.Bool.{eq-eqb, ne_eqb, cases_eq}
use Rattle.lane_model.specs.Lane.{Entry, Carries, GoesDown}
use Rattle.ledger_laws.specs.Laws.{LogBegins, NumberedFrom, times_of}
use Rattle.ledger_model.specs.Log.{Numbered}

-- The frames of entries, from a number and from bytes of a frame under way on. The pieces of a frame are joined up to
-- the one that no other follows. A link-down entry is no frame.
abbrev pub frames_from : ℕ → List ℕ → List Entry → List Numbered
frames_from n rest [] = []
frames_from n rest (GoesDown ∷ entries) = frames_from n rest entries
frames_from n rest (Carries bytes zero ∷ entries) = record { number = n; bytes = rest ++ bytes } ∷ frames_from (n + 1) [] entries
frames_from n rest (Carries bytes (suc left) ∷ entries) = frames_from n (rest ++ bytes) entries

-- the number of the next frame after entries, and the bytes of the frame that is under way there
abbrev pub number_after : ℕ → List Entry → ℕ
number_after n [] = n
number_after n (GoesDown ∷ entries) = number_after n entries
number_after n (Carries bytes zero ∷ entries) = number_after (n + 1) entries
number_after n (Carries bytes (suc left) ∷ entries) = number_after n entries

abbrev pub rest_after : List ℕ → List Entry → List ℕ
rest_after rest [] = rest
rest_after rest (GoesDown ∷ entries) = rest_after rest entries
rest_after rest (Carries bytes zero ∷ entries) = rest_after [] entries
rest_after rest (Carries bytes (suc left) ∷ entries) = rest_after (rest ++ bytes) entries

-- The frames of two lists of entries, joined, are the first's and then the second's, going on where the first ends.
pub frames-append : (n : ℕ) (rest : List ℕ) (xs ys : List Entry) → frames_from n rest (xs ++ ys) ≡ frames_from n rest xs ++ frames_from (number_after n xs) (rest_after rest xs) ys
frames-append n rest [] ys = refl
frames-append n rest (GoesDown ∷ xs) ys = frames-append n rest xs ys
frames-append n rest (Carries bytes zero ∷ xs) ys = ap (λ frames. record { number = n; bytes = rest ++ bytes } ∷ frames) (frames-append (n + 1) [] xs ys)
frames-append n rest (Carries bytes (suc left) ∷ xs) ys = frames-append n (rest ++ bytes) xs ys

-- The number of the next frame after two joined lists of entries is counted through one and then the other.
pub number-append : (n : ℕ) (xs ys : List Entry) → number_after n (xs ++ ys) ≡ number_after (number_after n xs) ys
number-append n [] ys = refl
number-append n (GoesDown ∷ xs) ys = number-append n xs ys
number-append n (Carries bytes zero ∷ xs) ys = number-append (n + 1) xs ys
number-append n (Carries bytes (suc left) ∷ xs) ys = number-append n xs ys

-- The bytes of a frame under way after two joined lists of entries are gathered through one and then the other.
pub rest-append : (rest : List ℕ) (xs ys : List Entry) → rest_after rest (xs ++ ys) ≡ rest_after (rest_after rest xs) ys
rest-append rest [] ys = refl
rest-append rest (GoesDown ∷ xs) ys = rest-append rest xs ys
rest-append rest (Carries bytes zero ∷ xs) ys = rest-append [] xs ys
rest-append rest (Carries bytes (suc left) ∷ xs) ys = rest-append (rest ++ bytes) xs ys

-- the frames of the first entries begin those of all
pub frames-begin : (m : ℕ) (xs : List Entry) → LogBegins (frames_from 0 [] (take m xs)) (frames_from 0 [] xs)
frames-begin m xs =
    (frames_from (number_after 0 (take m xs)) (rest_after [] (take m xs)) (drop m xs), ap (frames_from 0 []) (sym (take-append-drop m xs)) ∙ frames-append 0 [] (take m xs) (drop m xs))

-- they are numbered, from the first one's number on
pub frames-numbered : (n : ℕ) (rest : List ℕ) (xs : List Entry) → NumberedFrom n (frames_from n rest xs)
frames-numbered n rest [] = tt
frames-numbered n rest (GoesDown ∷ xs) = frames-numbered n rest xs
frames-numbered n rest (Carries bytes zero ∷ xs) = (refl, frames-numbered (n + 1) [] xs)
frames-numbered n rest (Carries bytes (suc left) ∷ xs) = frames-numbered n (rest ++ bytes) xs

numbered-front : (n : ℕ) (xs rest : List Numbered) → NumberedFrom n (xs ++ rest) → NumberedFrom n xs
numbered-front n [] rest numbers = tt
numbered-front n (x ∷ xs) rest numbers = (numbers.0, numbered-front (n + 1) xs rest numbers.1)

-- The first frames of a list that is numbered in a row are numbered in a row from the same number on.
pub numbered-begin : (n : ℕ) (xs ys : List Numbered) → LogBegins xs ys → NumberedFrom n ys → NumberedFrom n xs
numbered-begin n xs ys begins numbers = numbered-front n xs begins.0 (subst (NumberedFrom n) begins.1 numbers)

-- numbered frames have each number at most once
times-below : (n m : ℕ) (xs : List Numbered) → NumberedFrom m xs → n < m → times_of n xs ≡ 0
times-below n m [] numbers below = refl
times-below n m (x ∷ xs) numbers below =
    let other : (x.number == n) ≡ false = ne_eqb x.number n (λ e. let a = numbers.0 in omega arith) in
    let rest : times_of n xs ≡ 0 = times-below n (m + 1) xs numbers.1 (omega arith) in
    subst (λ b. (if b then 1 else 0) + times_of n xs ≡ 0) (sym other) (omega arith)

-- Among frames that are numbered in a row no number stands twice.
pub times-once : (n m : ℕ) (xs : List Numbered) → NumberedFrom m xs → times_of n xs < 2
times-once n m [] numbers = omega arith
times-once n m (x ∷ xs) numbers = elim (cases_eq x.number n) [
  | inl e ↦
      let rest : times_of n xs ≡ 0 = times-below n (m + 1) xs numbers.1 (let a = numbers.0 in omega arith) in
      subst (λ b. (if b then 1 else 0) + times_of n xs < 2) (sym (eq-eqb x.number n e)) (omega arith)
  | inr ne ↦
      let rest : times_of n xs < 2 = times-once n (m + 1) xs numbers.1 in
      subst (λ b. (if b then 1 else 0) + times_of n xs < 2) (sym (ne_eqb x.number n ne)) (omega arith)
]

-- the entry at a place carries a frame
pub record CarriesAt (xs : List Entry) (n : ℕ) : Type 0 where
  pub bytes : List ℕ
  pub left : ℕ
  pub there : slice_index_or xs n GoesDown ≡ Carries bytes left

-- A place at which an entry carries a frame's bytes is below the list's length.
pub carries-within : (xs : List Entry) (n : ℕ) → CarriesAt xs n → n < length xs
carries-within [] n at = absurd (let e = at.there in cc)
carries-within (x ∷ xs) zero at = omega arith
carries-within (x ∷ xs) (suc n) at = let within : n < length xs = carries-within xs n (record { bytes = at.bytes; left = at.left; there = at.there }) in omega arith

-- it stays where entries are added at the end
pub carries-append : (xs ys : List Entry) (n : ℕ) → CarriesAt xs n → CarriesAt (xs ++ ys) n
carries-append [] ys n at = absurd (let e = at.there in cc)
carries-append (x ∷ xs) ys zero at = record { bytes = at.bytes; left = at.left; there = at.there }
carries-append (x ∷ xs) ys (suc n) at =
    let rest : CarriesAt (xs ++ ys) n = carries-append xs ys n (record { bytes = at.bytes; left = at.left; there = at.there }) in
    record { bytes = rest.bytes; left = rest.left; there = rest.there }
