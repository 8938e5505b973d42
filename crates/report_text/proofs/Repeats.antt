-- Bytes that repeat.
use Rattle.std.proofs.Common.{◌≡◌, ℕ, zero, suc, ◌+◌, ◌*◌, ◌/◌, ◌%◌, List, ◌++◌, replicate, refl, sym, ap, ◌∙◌, append_assoc, append-nil, arith}
use Rattle.std.specs.List.{flat_map, repeat}
use native.Mathlib.Nat.{suc-mul}

turned : {X : Type 0} (n : ℕ) (xs : List X) → repeat n xs ++ xs ≡ repeat (suc n) xs
turned zero xs = sym (append-nil xs)
turned (suc n) xs = append_assoc xs (repeat n xs) xs ∙ ap (λ l. xs ++ l) (turned n xs)

-- One copy more is one at the end.
pub repeat_more : {X : Type 0} (n : ℕ) (xs : List X) → repeat n xs ++ xs ≡ repeat (n + 1) xs
repeat_more n xs = let more : suc n ≡ n + 1 = omega arith in turned n xs ∙ ap (λ k. repeat k xs) more

repeat-add : {X : Type 0} (m n : ℕ) (xs : List X) → repeat (m + n) xs ≡ repeat m xs ++ repeat n xs
repeat-add zero n xs = ap (λ k. repeat k xs) (omega arith)
repeat-add (suc m) n xs =
    let more : suc m + n ≡ suc (m + n) = omega arith in
    ap (λ k. repeat k xs) more ∙ ap (λ l. xs ++ l) (repeat-add m n xs) ∙ sym (append_assoc xs (repeat m xs) (repeat n xs))

repeat-mul : {X : Type 0} (m n : ℕ) (xs : List X) → repeat m (repeat n xs) ≡ repeat (m * n) xs
repeat-mul zero n xs = let none : 0 ≡ zero * n = omega arith in ap (λ k. repeat k xs) none
repeat-mul (suc m) n xs =
    let product = suc-mul m n in
    let more : n + m * n ≡ suc m * n = omega arith in
    ap (λ l. repeat n xs ++ l) (repeat-mul m n xs) ∙ sym (repeat-add n (m * n) xs) ∙ ap (λ k. repeat k xs) more

-- Copies by blocks of 64, and the rest, are all of them.
pub repeat_by_blocks : {X : Type 0} (count : ℕ) (xs : List X) → repeat (count / 64) (repeat 64 xs) ++ repeat (count % 64) xs ≡ repeat count xs
repeat_by_blocks count xs =
    let all : count / 64 * 64 + count % 64 ≡ count = omega arith in
    ap (λ l. l ++ repeat (count % 64) xs) (repeat-mul (count / 64) 64 xs) ∙ sym (repeat-add (count / 64 * 64) (count % 64) xs) ∙ ap (λ n. repeat n xs) all

-- The lines of an element this many times are its line this many times.
pub lines_of_copies : {X Y : Type 0} (f : X → List Y) (n : ℕ) (x : X) → flat_map f (replicate n x) ≡ repeat n (f x)
lines_of_copies f zero x = refl
lines_of_copies f (suc n) x = ap (λ l. f x ++ l) (lines_of_copies f n x)
