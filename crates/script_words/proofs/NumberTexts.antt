-- The word of a number is its decimal text.
use Rattle.std.proofs.Common.{◌≡◌, ℕ, zero, suc, ◌^◌, ◌<◌, ◌==◌, Bool, true, false, ◌&&◌, cond, Some, None, List, [], ◌∷◌, length, get_or, nat_lt, nat_le, refl, sym, ◌∙◌, ap, lit<, arith}
use Rattle.std.proofs.lemmas.Bool.{and_parts, and_from, le-leb, leb-true, ltb-true, lt-ltb, ne_eqb, eq-eqb, both_ways, not-true, cond-true, not_from_false}
use Rattle.std.proofs.lemmas.Fmt.{decimal_digit, decimal_nonempty, first_decimal, digits_decimal, digits_value-decimal, decimal-digits_value}
use Rattle.std.proofs.lemmas.Str.Parse.{IsDigitsTest, FoldsDigits, IsNumeralModel, numerals_by_fold}
use Rattle.std.specs.Fmt.{decimal}
use Rattle.std.specs.List.{list_all}
use Rattle.script_words.specs.Laws.{NumbersAreDecimal}
use Rattle.script_words.specs.Words.{is_digit, is_plain, value_from, word_number_of}

abbrev AllDigit : List ℕ → Type 0
AllDigit ds = list_all is_digit ds ≡ true

tells : IsDigitsTest AllDigit
tells = record {
  empty = refl;
  parts = λ c cs h.
      let both = and_parts (is_digit c) (list_all is_digit cs) h in
      let range = and_parts (nat_le 48 c) (nat_le c 57) both.0 in
      ((leb-true 48 c range.0, leb-true c 57 range.1), both.1);
  more = λ c cs range h. and_from (is_digit c) (list_all is_digit cs) (and_from (nat_le 48 c) (nat_le c 57) (le-leb 48 c range.0) (le-leb c 57 range.1)) h;
}

folds : FoldsDigits value_from
folds = record { empty = λ n. refl; more = λ n c cs range. refl }

own : IsNumeralModel AllDigit (value_from 0)
own = numerals_by_fold AllDigit tells value_from folds

plain_some : (ds : List ℕ) → is_plain ds ≡ true → 0 < length ds
plain_some [] h = cc h
plain_some (d ∷ ds) h = omega arith

plain_zero : (ds : List ℕ) → is_plain ds ≡ true → get_or ds 0 0 ≡ 48 → length ds ≡ 1
plain_zero [] h e = cc h
plain_zero (d ∷ []) h e = refl
plain_zero (d ∷ next ∷ ds) h e = absurd (both_ways (d == 48) (not-true (d == 48) h) (eq-eqb d 48 e))

large_plain : (ds : List ℕ) → 0 < length ds → 48 < get_or ds 0 0 → is_plain ds ≡ true
large_plain [] some h = absurd (omega arith)
large_plain (d ∷ []) some h = refl
large_plain (d ∷ next ∷ ds) some h = not_from_false (d == 48) (ne_eqb d 48 (λ e. omega arith))

decimal_plain : (n : ℕ) → n < 2 ^ 64 → is_plain (decimal n) ≡ true
decimal_plain zero h = ap is_plain (decimal_digit 0 (lit< tt))
decimal_plain (suc n) h = large_plain (decimal (suc n)) (decimal_nonempty (suc n) h) (first_decimal (suc n) (omega arith) h)

spelled_by : (word : List ℕ) (n : ℕ) (t : Bool) → (list_all is_digit word && (is_plain word && nat_lt (value_from 0 word) (2 ^ 32))) ≡ t → cond t (Some (value_from 0 word)) None ≡ Some n
    → (word ≡ decimal n) × (n < 2 ^ 32)
spelled_by word n true is e =
    let value : value_from 0 word ≡ n = cc in
    let digits_rest = and_parts (list_all is_digit word) (is_plain word && nat_lt (value_from 0 word) (2 ^ 32)) is in
    let plain_small = and_parts (is_plain word) (nat_lt (value_from 0 word) (2 ^ 32)) digits_rest.1 in
    let small : value_from 0 word < 2 ^ 32 = ltb-true (value_from 0 word) (2 ^ 32) plain_small.1 in
    let text = decimal-digits_value own word digits_rest.0 (plain_some word plain_small.0) (plain_zero word plain_small.0) (omega arith) in
    (sym text ∙ ap decimal value, omega arith)
spelled_by word n false is e = cc e

text_spells : (n : ℕ) → n < 2 ^ 32 → word_number_of (decimal n) ≡ Some n
text_spells n small =
    let wide : n < 2 ^ 64 = omega arith in
    let value : value_from 0 (decimal n) ≡ n = digits_value-decimal own n wide in
    let test : (list_all is_digit (decimal n) && (is_plain (decimal n) && nat_lt (value_from 0 (decimal n)) (2 ^ 32))) ≡ true =
    and_from (list_all is_digit (decimal n)) (is_plain (decimal n) && nat_lt (value_from 0 (decimal n)) (2 ^ 32)) (digits_decimal own n wide)
    (and_from (is_plain (decimal n)) (nat_lt (value_from 0 (decimal n)) (2 ^ 32)) (decimal_plain n wide) (lt-ltb (value_from 0 (decimal n)) (2 ^ 32) (omega arith))) in
    cond-true (list_all is_digit (decimal n) && (is_plain (decimal n) && nat_lt (value_from 0 (decimal n)) (2 ^ 32))) (Some (value_from 0 (decimal n))) None test ∙ ap Some value

-- A word spells a number if and only if it is the number's decimal text and the number is below 2^32.
pub number_texts : NumbersAreDecimal
number_texts = λ word n. (
  λ e. spelled_by word n (list_all is_digit word && (is_plain word && nat_lt (value_from 0 word) (2 ^ 32))) refl e,
  λ h. ap word_number_of h.0 ∙ text_spells n h.1,
)
