-- Numbers read digit by digit.
use Rattle.std.proofs.Common.{◌≡◌, ℕ, ◌+◌, ◌-◌, ◌*◌, ◌^◌, ◌<◌, ◌≤◌, Bool, true, false, ◌&&◌, Option, Some, None, List, [], ◌∷◌, length, get_or, drop, nat_lt, suc, if◌then◌else◌, refl, drop-cons, arith}
use Rattle.std.proofs.lemmas.Bool.Decides.{nat_tests}
use Rattle.std.specs.List.{list_all}
use Rattle.script_words.specs.Words.{is_digit, value_from}

-- the number that digits spell after a value that was read
abbrev pub read_on : ℕ → List ℕ → Option ℕ
read_on v ds = if list_all is_digit ds && nat_lt (value_from v ds) (2 ^ 32) then Some (value_from v ds) else None

-- Reading on from a value with more digits never gives a smaller one.
pub value-grows : (v : ℕ) (ds : List ℕ) → v ≤ value_from v ds
value-grows v [] = omega arith
value-grows v (d ∷ ds) = let more = value-grows (v * 10 + (d - 48)) ds in omega arith

nothing-read : (b : Bool) (n : ℕ) → (if b && false then Some n else None) ≡ None
nothing-read true n = refl
nothing-read false n = refl

past-limit : (v d : ℕ) (ds : List ℕ) → 4294967295 < v * 10 + (d - 48) → read_on v (d ∷ ds) ≡ None
past-limit v d ds large =
    let more = value-grows (v * 10 + (d - 48)) ds in
    let e : nat_lt (value_from (v * 10 + (d - 48)) ds) (2 ^ 32) ≡ false = grind (arith, nat_tests) in
    rw e (nothing-read (list_all is_digit (d ∷ ds)) (value_from (v * 10 + (d - 48)) ds))

-- a digit that takes the value past the limit ends all
pub read_on-past : (v i : ℕ) (w : List ℕ) → i < length w → 4294967295 < v * 10 + (get_or w i 0 - 48) → read_on v (drop i w) ≡ None
read_on-past v i w lt h = rw (drop-cons w i 0) (past-limit v (get_or w i 0) (drop (suc i) w) h)
