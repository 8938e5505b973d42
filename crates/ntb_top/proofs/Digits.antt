-- The number of a seed, read digit by digit.
use Rattle.std.proofs.Common.{◌≡◌, ◌∙◌, ℕ, ◌+◌, ◌-◌, ◌*◌, ◌^◌, ◌<◌, ◌≤◌, ◌&&◌, Bool, true, false, if◌then◌else◌, Option, Some, None, List, [], ◌∷◌, length, get_or, drop, drop-cons, nat_lt, refl, ap, sym, arith, add-one}
use Rattle.std.specs.List.{list_all}
use Rattle.std.proofs.lemmas.Bool.Decides.{nat_tests}
use Rattle.std.proofs.lemmas.Grind.{common_steps}
use Rattle.script_words.specs.Words.{is_digit, is_plain, value_from}
use Rattle.ntb_top.specs.Commands.{number_below}

-- a digit by its bounds
pub digit-within : (b : ℕ) → (48 ≤ b) × (b ≤ 57) → is_digit b ≡ true
digit-within b h = let least : 48 ≤ b = h.0 in let most : b ≤ 57 = h.1 in grind (arith, nat_tests)

-- the number that digits spell after a value that was read
abbrev pub digits_from : ℕ → List ℕ → Option ℕ
digits_from value digits = if list_all is_digit digits && nat_lt (value_from value digits) (2 ^ 64) then Some (value_from value digits) else None

digits-next : (value : ℕ) (s : List ℕ) (i : ℕ) → i < length s → is_digit (get_or s i 0) ≡ true →
    digits_from value (drop i s) ≡ digits_from (value * 10 + (get_or s i 0 - 48)) (drop (i + 1) s)
digits-next value s i h e = rw (add-one, drop-cons s i 0) (rw e refl)

value-grows : (value : ℕ) (digits : List ℕ) → value ≤ value_from value digits
value-grows value [] = omega arith
value-grows value (digit ∷ digits) = omega (arith, value-grows (value * 10 + (digit - 48)) digits)

digits-too_large : (value : ℕ) (digits : List ℕ) → 2 ^ 64 ≤ value → digits_from value digits ≡ None
digits-too_large value digits h = let most : 2 ^ 64 ≤ value_from value digits = omega (arith, value-grows value digits) in grind arith

-- a digit that takes the value past the limit ends all
pub digits-past : (value : ℕ) (s : List ℕ) (i : ℕ) → i < length s → is_digit (get_or s i 0) ≡ true →
    2 ^ 64 ≤ value * 10 + (get_or s i 0 - 48) → digits_from value (drop i s) ≡ None
digits-past value s i h e large = digits-next value s i h e ∙ digits-too_large (value * 10 + (get_or s i 0 - 48)) (drop (i + 1) s) large

-- Past the last digit of a word the number that was read is the value so far, if it is below 2^64.
pub digits-done : (value : ℕ) (s : List ℕ) (i : ℕ) → length s ≤ i → value < 2 ^ 64 → digits_from value (drop i s) ≡ Some value
digits-done value s i h small = let none : drop i s ≡ [] = grind (arith, common_steps) in rw none (grind arith)

-- Plain words

not-plain : (all below : Bool) (n : ℕ) → (if all && (false && below) then Some n else None) ≡ None
not-plain true below n = refl
not-plain false below n = refl

-- A plain word read digit by digit from 0 gives the number below 2^64 that it spells, or none if it spells none.
pub seed-plain : (word : List ℕ) → is_plain word ≡ true → digits_from 0 word ≡ number_below (2 ^ 64) word
seed-plain word plain =
    ap (λ (b : Bool). if list_all is_digit word && (b && nat_lt (value_from 0 word) (2 ^ 64)) then Some (value_from 0 word) else None) (sym plain)

-- A word that is empty, or starts with a zero and goes on, spells no number below 2^64.
pub seed-not_plain : (word : List ℕ) → is_plain word ≡ false → None ≡ number_below (2 ^ 64) word
seed-not_plain word plain =
    sym (not-plain (list_all is_digit word) (nat_lt (value_from 0 word) (2 ^ 64)) (value_from 0 word))
    ∙ ap (λ (b : Bool). if list_all is_digit word && (b && nat_lt (value_from 0 word) (2 ^ 64)) then Some (value_from 0 word) else None) (sym plain)
