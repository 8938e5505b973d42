-- A list cut at the first element that passes a test, and the words of a line.
use Rattle.std.proofs.Common.{◌≡◌, ℕ, zero, suc, ◌+◌, ◌-◌, ◌<◌, ◌≤◌, ◌==◌, Bool, true, false, ◌&&◌, cond, List, [], ◌∷◌, ◌++◌, length, filter, nat_le, get_or, take, drop, slice_range, refl, sym, ◌∙◌, ap, add-one, drop-cons, length-drop, append_assoc, arith}
use Rattle.std.proofs.Math.Seq.{take-suc}
use Rattle.std.proofs.lemmas.Bool.{eqb-true, le-leb}
use Rattle.std.proofs.lemmas.List.{take_all, drop_all, get_or-drop}
use Rattle.std.specs.List.{slice_split, onto_first}
use Rattle.memchr.specs.Find.{Nowhere, NoneBefore, Passes}
use Rattle.script_words.specs.Words.{is_filled, words_of, is_text}

-- the parts of a list whose front has no element that passes
abbrev pub with_front : List ℕ → List (List ℕ) → List (List ℕ)
with_front front [] = front ∷ []
with_front front (part ∷ parts) = (front ++ part) ∷ parts

append-none : (xs : List ℕ) → xs ++ [] ≡ xs
append-none [] = refl
append-none (x ∷ xs) = ap (λ ys. x ∷ ys) (append-none xs)

some-part : (x : ℕ) (parts : List (List ℕ)) → with_front [] (onto_first x parts) ≡ onto_first x parts
some-part x [] = refl
some-part x (part ∷ parts) = refl

-- before the first element is read
pub split_start : (p : ℕ → Bool) (xs : List ℕ) → slice_split p xs ≡ with_front [] (slice_split p xs)
split_start p [] = refl
split_start p (x ∷ xs) = elim (p x) as (λ b. cond b ([] ∷ slice_split p xs) (onto_first x (slice_split p xs)) ≡ with_front [] (cond b ([] ∷ slice_split p xs) (onto_first x (slice_split p xs)))) [
  | true ↦ refl
  | false ↦ sym (some-part x (slice_split p xs))
]

onto-front : (front : List ℕ) (x : ℕ) (parts : List (List ℕ)) → with_front front (onto_first x parts) ≡ with_front (front ++ x ∷ []) parts
onto-front front x [] = refl
onto-front front x (part ∷ parts) = ap (λ first. first ∷ parts) (sym (append_assoc front (x ∷ []) part))

-- an element that doesn't pass
pub split_more : (p : ℕ → Bool) (i : ℕ) (xs : List ℕ) → i < length xs → p (get_or xs i 0) ≡ false
    → with_front (take i xs) (slice_split p (drop i xs)) ≡ with_front (take (i + 1) xs) (slice_split p (drop (i + 1) xs))
split_more p i xs lt fails =
    let here : slice_split p (get_or xs i 0 ∷ drop (suc i) xs) ≡ onto_first (get_or xs i 0) (slice_split p (drop (suc i) xs)) =
    ap (λ b. cond b ([] ∷ slice_split p (drop (suc i) xs)) (onto_first (get_or xs i 0) (slice_split p (drop (suc i) xs)))) fails in
    ap (λ ys. with_front (take i xs) (slice_split p ys)) (drop-cons xs i 0 lt) ∙ (ap (with_front (take i xs)) here
    ∙ (onto-front (take i xs) (get_or xs i 0) (slice_split p (drop (suc i) xs)) ∙ (ap (λ front. with_front front (slice_split p (drop (suc i) xs))) (sym (take-suc xs i 0 lt))
    ∙ ap (λ n. with_front (take n xs) (slice_split p (drop n xs))) (sym (add-one i)))))

-- the first element that passes
pub split_here : (p : ℕ → Bool) (i : ℕ) (xs : List ℕ) → i < length xs → p (get_or xs i 0) ≡ true
    → with_front (take i xs) (slice_split p (drop i xs)) ≡ take i xs ∷ slice_split p (drop (i + 1) xs)
split_here p i xs lt passes =
    let here : slice_split p (get_or xs i 0 ∷ drop (suc i) xs) ≡ [] ∷ slice_split p (drop (suc i) xs) =
    ap (λ b. cond b ([] ∷ slice_split p (drop (suc i) xs)) (onto_first (get_or xs i 0) (slice_split p (drop (suc i) xs)))) passes in
    ap (λ ys. with_front (take i xs) (slice_split p ys)) (drop-cons xs i 0 lt) ∙ (ap (with_front (take i xs)) here
    ∙ (ap (λ front. front ∷ slice_split p (drop (suc i) xs)) (append-none (take i xs)) ∙ ap (λ n. take i xs ∷ slice_split p (drop n xs)) (sym (add-one i))))

-- a front none of whose elements passes
split_front : (p : ℕ → Bool) (xs : List ℕ) (k : ℕ) → k ≤ length xs → ((j : ℕ) → j < k → p (get_or xs j 0) ≡ false)
    → slice_split p xs ≡ with_front (take k xs) (slice_split p (drop k xs))
split_front p xs zero h fails = split_start p xs
split_front p xs (suc k) h fails =
    split_front p xs k (omega arith) (λ j lt. fails j (omega arith))
    ∙ (split_more p k xs (omega arith) (fails k (omega arith)) ∙ ap (λ n. with_front (take n xs) (slice_split p (drop n xs))) (add-one k))

not_so : (b : Bool) → ¬ (b ≡ true) → b ≡ false
not_so true h = absurd (h refl)
not_so false h = refl

-- no element passes
pub split_nowhere : (p : ℕ → Bool) (xs : List ℕ) → Nowhere (Passes p xs) 0 (length xs) → slice_split p xs ≡ xs ∷ []
split_nowhere p xs none =
    split_front p xs (length xs) (omega arith) (λ j lt. not_so (p (get_or xs j 0)) (none j (omega arith) lt))
    ∙ (ap (λ ys. with_front (take (length xs) xs) (slice_split p ys)) (drop_all (length xs) xs (omega arith)) ∙ ap (λ ys. ys ∷ []) (append-none (take (length xs) xs) ∙ take_all (length xs) xs (omega arith)))

-- the first element that passes is at place k
pub split_first : (p : ℕ → Bool) (xs : List ℕ) (k : ℕ) → NoneBefore (Passes p xs) 0 (length xs) k → Passes p xs k
    → slice_split p xs ≡ take k xs ∷ slice_split p (drop (k + 1) xs)
split_first p xs k first passes =
    let below : k < length xs = first.high in
    split_front p xs k (omega arith) (λ j lt. not_so (p (get_or xs j 0)) (first.before j (omega arith) lt)) ∙ split_here p k xs below passes

-- a word without bytes is no word of the line
pub filled_word : (word : List ℕ) (parts : List (List ℕ)) → (length word == 0) ≡ false → filter is_filled (word ∷ parts) ≡ word ∷ filter is_filled parts
filled_word [] parts h = cc
filled_word (b ∷ word) parts h = refl

-- A part without bytes isn't among the words that are taken from the parts of a line.
pub empty_word : (word : List ℕ) (parts : List (List ℕ)) → (length word == 0) ≡ true → filter is_filled (word ∷ parts) ≡ filter is_filled parts
empty_word [] parts h = refl
empty_word (b ∷ word) parts h = absurd (let e = eqb-true (length (b ∷ word)) 0 h in omega arith)

-- Words read byte by byte

-- the words of a line after those that are read: the first begins at `start`, and its bytes before place i are read
abbrev pub words_from : List ℕ → ℕ → ℕ → List (List ℕ)
words_from line start i = filter is_filled (with_front (slice_range line start i) (slice_split (λ b. b == 32) (drop i line)))

-- Before a byte is read, the words that are still to come are all the words of the line.
pub words_begin : (line : List ℕ) → words_of line ≡ words_from line 0 0
words_begin line = ap (filter is_filled) (split_start (λ b. b == 32) line)

range_more : (line : List ℕ) (start i : ℕ) → start ≤ i → i < length line → slice_range line start (i + 1) ≡ slice_range line start i ++ get_or line i 0 ∷ []
range_more line start i le lt =
    let long = length-drop start line in
    let here : (i + 1) - start ≡ suc (i - start) = omega arith in
    let place : start + (i - start) ≡ i = omega arith in
    let byte : get_or (drop start line) (i - start) 0 ≡ get_or line i 0 = get_or-drop start line (i - start) 0 ∙ ap (λ k. get_or line k 0) place in
    ap (λ n. take n (drop start line)) here
    ∙ (take-suc (drop start line) (i - start) 0 (omega arith) ∙ ap (λ b. take (i - start) (drop start line) ++ b ∷ []) byte)

-- a byte of a word
pub words_byte : (line : List ℕ) (start i : ℕ) → start ≤ i → i < length line → (get_or line i 0 == 32) ≡ false → words_from line start i ≡ words_from line start (i + 1)
words_byte line start i le lt other =
    let p : ℕ → Bool = λ b. b == 32 in
    let front : List ℕ = slice_range line start i in
    let b : ℕ = get_or line i 0 in
    let parts : List (List ℕ) = slice_split p (drop (suc i) line) in
    let here : slice_split p (drop i line) ≡ onto_first b parts = ap (slice_split p) (drop-cons line i 0 lt) ∙ ap (λ t. cond t ([] ∷ parts) (onto_first b parts)) other in
    let longer : with_front (front ++ b ∷ []) parts ≡ with_front (slice_range line start (i + 1)) parts = ap (λ f. with_front f parts) (sym (range_more line start i le lt)) in
    let behind : parts ≡ slice_split p (drop (i + 1) line) = ap (λ n. slice_split p (drop n line)) (sym (add-one i)) in
    ap (λ ps. filter is_filled (with_front front ps)) here ∙ (ap (filter is_filled) (onto-front front b parts ∙ longer)
    ∙ ap (λ ps. filter is_filled (with_front (slice_range line start (i + 1)) ps)) behind)

filter-cons : (word : List ℕ) (parts : List (List ℕ)) → filter is_filled (word ∷ parts) ≡ filter is_filled (word ∷ []) ++ filter is_filled parts
filter-cons [] parts = refl
filter-cons (b ∷ word) parts = refl

empty_range : (line : List ℕ) (i : ℕ) → slice_range line i i ≡ []
empty_range line i = let none : i - i ≡ 0 = omega arith in ap (λ n. take n (drop i line)) none

-- a space ends the word
pub words_space : (line : List ℕ) (start i : ℕ) → i < length line → (get_or line i 0 == 32) ≡ true
    → words_from line start i ≡ filter is_filled (slice_range line start i ∷ []) ++ words_from line (i + 1) (i + 1)
words_space line start i lt space =
    let p : ℕ → Bool = λ b. b == 32 in
    let front : List ℕ = slice_range line start i in
    let b : ℕ = get_or line i 0 in
    let parts : List (List ℕ) = slice_split p (drop (suc i) line) in
    let here : slice_split p (drop i line) ≡ [] ∷ parts = ap (slice_split p) (drop-cons line i 0 lt) ∙ ap (λ t. cond t ([] ∷ parts) (onto_first b parts)) space in
    let behind : parts ≡ slice_split p (drop (i + 1) line) = ap (λ n. slice_split p (drop n line)) (sym (add-one i)) in
    let whole : with_front front ([] ∷ parts) ≡ front ∷ parts = ap (λ f. f ∷ parts) (append-none front) in
    let begins : parts ≡ with_front (slice_range line (i + 1) (i + 1)) (slice_split p (drop (i + 1) line)) =
    behind ∙ (split_start p (drop (i + 1) line) ∙ ap (λ f. with_front f (slice_split p (drop (i + 1) line))) (sym (empty_range line (i + 1)))) in
    ap (λ ps. filter is_filled (with_front front ps)) here ∙ (ap (filter is_filled) whole ∙ (filter-cons front parts
    ∙ ap (λ ps. filter is_filled (front ∷ []) ++ filter is_filled ps) begins))

-- the line's end ends the word
pub words_end : (line : List ℕ) (start i : ℕ) → length line ≤ i → words_from line start i ≡ filter is_filled (drop start line ∷ [])
words_end line start i end =
    let long = length-drop start line in
    let none : drop i line ≡ [] = drop_all i line end in
    let all : slice_range line start i ≡ drop start line = take_all (i - start) (drop start line) (omega arith) in
    ap (λ rest. filter is_filled (with_front (slice_range line start i) (slice_split (λ b. b == 32) rest))) none
    ∙ ap (λ front. filter is_filled (front ∷ [])) (append-none (slice_range line start i) ∙ all)

-- a byte that is printed, or a space
pub text_byte : (line : List ℕ) (i : ℕ) → i < length line → 32 ≤ get_or line i 0 → get_or line i 0 ≤ 126 → is_text (drop i line) ≡ is_text (drop (i + 1) line)
text_byte line i lt low high =
    let b : ℕ = get_or line i 0 in
    let above : nat_le 32 (get_or line i 0) ≡ true = le-leb 32 (get_or line i 0) low in
    let below : nat_le (get_or line i 0) 126 ≡ true = le-leb (get_or line i 0) 126 high in
    ap is_text (drop-cons line i 0 lt) ∙ (ap (λ t. (t && nat_le b 126) && is_text (drop (suc i) line)) above
    ∙ (ap (λ t. t && is_text (drop (suc i) line)) below ∙ ap (λ n. is_text (drop n line)) (sym (add-one i))))
