-- The word of some bytes is their hexadecimal text, in small letters.
use Rattle.std.proofs.Common.{◌≡◌, ℕ, zero, suc, ◌+◌, ◌-◌, ◌*◌, ◌/◌, ◌%◌, ◌<◌, ◌≤◌, Bool, true, false, ◌&&◌, cond, Option, Some, None, Result, Ok, Err, List, [], ◌∷◌, length, inl, inr, nat_le, nat_lt, slice_index, refl, sym, ◌∙◌, ap, subst, arith}
use Rattle.std.proofs.lemmas.Bool.{and_parts, and_from, and_left, and_right, cases_lt, cond-true, cond-false, leb-true, le-leb, lt-leb, lt-ltb, le-ltb}
use Rattle.std.proofs.lemmas.List.{length-map}
use Rattle.std.specs.Char.{to_ascii_lowercase}
use Rattle.std.specs.Result.{result_ok}
use Rattle.std.specs.Str.{str_to_ascii_lowercase}
use Rattle.hex.specs.Hex.{IsBytes, decode_of, decode_pairs, digit_or_error, encode_lower, encode_with, hex_digit_value, lower_digits, ◌>>=◌}
use Rattle.hex.specs.declared.error.FromHexError.{FromHexError}
use Rattle.hex.proofs.HexLemmas.{decode_of-even, decode_of-ok, decode_of-encode_lower}
use Rattle.script_words.specs.Laws.{BytesAreHex}
use Rattle.script_words.specs.Words.{word_bytes_of}

-- A letter in small letters

small_below : (c : ℕ) → c < 65 → to_ascii_lowercase c ≡ c
small_below c h = cond-true (nat_lt c 65) c (cond (nat_lt c 91) (c + 32) c) (lt-ltb c 65 h)

small_of_capital : (c : ℕ) → 65 ≤ c → c < 91 → to_ascii_lowercase c ≡ c + 32
small_of_capital c low high =
    cond-false (nat_lt c 65) c (cond (nat_lt c 91) (c + 32) c) (le-ltb c 65 low) ∙ cond-true (nat_lt c 91) (c + 32) c (lt-ltb c 91 high)

small_past : (c : ℕ) → 91 ≤ c → to_ascii_lowercase c ≡ c
small_past c h =
    cond-false (nat_lt c 65) c (cond (nat_lt c 91) (c + 32) c) (le-ltb c 65 (omega arith)) ∙ cond-false (nat_lt c 91) (c + 32) c (le-ltb c 91 h)

-- A digit in small letters is the digit of its value

digit_text : (v : ℕ) → v < 16 → slice_index lower_digits v ≡ cond (nat_lt v 10) (48 + v) (87 + v)
digit_text zero h = refl
digit_text (suc zero) h = refl
digit_text (suc (suc zero)) h = refl
digit_text (suc (suc (suc zero))) h = refl
digit_text (suc (suc (suc (suc zero)))) h = refl
digit_text (suc (suc (suc (suc (suc zero))))) h = refl
digit_text (suc (suc (suc (suc (suc (suc zero)))))) h = refl
digit_text (suc (suc (suc (suc (suc (suc (suc zero))))))) h = refl
digit_text (suc (suc (suc (suc (suc (suc (suc (suc zero)))))))) h = refl
digit_text (suc (suc (suc (suc (suc (suc (suc (suc (suc zero))))))))) h = refl
digit_text (suc (suc (suc (suc (suc (suc (suc (suc (suc (suc zero)))))))))) h = refl
digit_text (suc (suc (suc (suc (suc (suc (suc (suc (suc (suc (suc zero))))))))))) h = refl
digit_text (suc (suc (suc (suc (suc (suc (suc (suc (suc (suc (suc (suc zero)))))))))))) h = refl
digit_text (suc (suc (suc (suc (suc (suc (suc (suc (suc (suc (suc (suc (suc zero))))))))))))) h = refl
digit_text (suc (suc (suc (suc (suc (suc (suc (suc (suc (suc (suc (suc (suc (suc zero)))))))))))))) h = refl
digit_text (suc (suc (suc (suc (suc (suc (suc (suc (suc (suc (suc (suc (suc (suc (suc zero))))))))))))))) h = refl
digit_text (suc (suc (suc (suc (suc (suc (suc (suc (suc (suc (suc (suc (suc (suc (suc (suc v)))))))))))))))) h = absurd (omega arith)

abbrev IsDigitOf : ℕ → ℕ → Type 0
IsDigitOf c v = (v < 16) × (to_ascii_lowercase c ≡ slice_index lower_digits v)

at_letter : (c v : ℕ) → to_ascii_lowercase c ≡ 87 + v → 10 ≤ v → v < 16 → IsDigitOf c v
at_letter c v e low high = (high, e ∙ sym (digit_text v high ∙ cond-false (nat_lt v 10) (48 + v) (87 + v) (le-ltb v 10 low)))

at_upper : (c v : ℕ) → 65 ≤ c → c ≤ 70 → c - 55 ≡ v → IsDigitOf c v
at_upper c v low high e = let here : c + 32 ≡ 87 + v = omega arith in at_letter c v (small_of_capital c low (omega arith) ∙ here) (omega arith) (omega arith)

at_small : (c v : ℕ) → 97 ≤ c → c ≤ 102 → c - 87 ≡ v → IsDigitOf c v
at_small c v low high e = let here : c ≡ 87 + v = omega arith in at_letter c v (small_past c (omega arith) ∙ here) (omega arith) (omega arith)

at_decimal : (c v : ℕ) → 48 ≤ c → c ≤ 57 → c - 48 ≡ v → IsDigitOf c v
at_decimal c v low high e =
    let here : c ≡ 48 + v = omega arith in
    let few : v < 16 = omega arith in
    (few, small_below c (omega arith) ∙ (here ∙ sym (digit_text v few ∙ cond-true (nat_lt v 10) (48 + v) (87 + v) (lt-ltb v 10 (omega arith)))))

in_range : (least c most : ℕ) → (nat_le least c && nat_le c most) ≡ true → (least ≤ c) × (c ≤ most)
in_range least c most e = let both = and_parts (nat_le least c) (nat_le c most) e in (leb-true least c both.0, leb-true c most both.1)

by_tests : (c v : ℕ) (upper small digit : Bool) → (nat_le 65 c && nat_le c 70) ≡ upper → (nat_le 97 c && nat_le c 102) ≡ small → (nat_le 48 c && nat_le c 57) ≡ digit
    → cond upper (Some (c - 55)) (cond small (Some (c - 87)) (cond digit (Some (c - 48)) None)) ≡ Some v → IsDigitOf c v
by_tests c v true small digit u s d e = let range = in_range 65 c 70 u in let value : c - 55 ≡ v = cc in at_upper c v range.0 range.1 value
by_tests c v false true digit u s d e = let range = in_range 97 c 102 s in let value : c - 87 ≡ v = cc in at_small c v range.0 range.1 value
by_tests c v false false true u s d e = let range = in_range 48 c 57 d in let value : c - 48 ≡ v = cc in at_decimal c v range.0 range.1 value
by_tests c v false false false u s d e = cc e

digit_of : (c v : ℕ) → hex_digit_value c ≡ Some v → IsDigitOf c v
digit_of c v e = by_tests c v (nat_le 65 c && nat_le c 70) (nat_le 97 c && nat_le c 102) (nat_le 48 c && nat_le c 57) refl refl refl e

-- Pairs of digits

byte_of_two : (h l : ℕ) → h < 16 → l < 16 → ((h * 16 + l) / 16 ≡ h) × ((h * 16 + l) % 16 ≡ l)
byte_of_two h l hs ls = (omega arith, omega arith)

abbrev step : ℕ → ℕ → ℕ → Option ℕ → Option ℕ → Result (List ℕ) FromHexError → Result (List ℕ) FromHexError
step a b i va vb r =
    (do
      h ← digit_or_error a i va
      l ← digit_or_error b (i + 1) vb
      Ok (h * 16 + l)) >>= (λ byte. r >>= (λ more. Ok (byte ∷ more)))

one_pair : (a b i : ℕ) (rest bytes : List ℕ) (va vb : Option ℕ) (r : Result (List ℕ) FromHexError) → hex_digit_value a ≡ va → hex_digit_value b ≡ vb
    → ((more : List ℕ) → r ≡ Ok more → str_to_ascii_lowercase rest ≡ encode_lower more)
    → step a b i va vb r ≡ Ok bytes
    → str_to_ascii_lowercase (a ∷ b ∷ rest) ≡ encode_lower bytes
unfolding encode_with
one_pair a b i rest bytes (Some h) (Some l) (Ok more) ea eb later e =
    let same : (h * 16 + l) ∷ more ≡ bytes = cc in
    let high = digit_of a h ea in
    let low = digit_of b l eb in
    let two = byte_of_two h l high.0 low.0 in
    ap (λ x. x ∷ to_ascii_lowercase b ∷ str_to_ascii_lowercase rest) (high.1 ∙ ap (slice_index lower_digits) (sym two.0))
    ∙ (ap (λ x. slice_index lower_digits ((h * 16 + l) / 16) ∷ x ∷ str_to_ascii_lowercase rest) (low.1 ∙ ap (slice_index lower_digits) (sym two.1))
    ∙ (ap (λ xs. slice_index lower_digits ((h * 16 + l) / 16) ∷ slice_index lower_digits ((h * 16 + l) % 16) ∷ xs) (later more refl) ∙ ap encode_lower same))
one_pair a b i rest bytes (Some h) (Some l) (Err error) ea eb later e = cc e
one_pair a b i rest bytes (Some h) None r ea eb later e = cc e
one_pair a b i rest bytes None vb r ea eb later e = cc e

pairs_back : (i : ℕ) (word bytes : List ℕ) → decode_pairs i word ≡ Ok bytes → str_to_ascii_lowercase word ≡ encode_lower bytes
unfolding decode_pairs encode_with
pairs_back i [] bytes e = let same : [] ≡ bytes = cc in rw (← same) refl
pairs_back i (a ∷ []) bytes e = cc e
pairs_back i (a ∷ b ∷ rest) bytes e =
    one_pair a b i rest bytes (hex_digit_value a) (hex_digit_value b) (decode_pairs (i + 2) rest) refl refl (λ more h. pairs_back (i + 2) rest more h) e

found : (r : Result (List ℕ) FromHexError) (bytes : List ℕ) → result_ok r ≡ Some bytes → r ≡ Ok bytes
found (Ok more) bytes e = let same : more ≡ bytes = cc in rw same refl
found (Err error) bytes e = cc e

spelled_text : (word bytes : List ℕ) → word_bytes_of word ≡ Some bytes → (str_to_ascii_lowercase word ≡ encode_lower bytes) × IsBytes bytes
spelled_text word bytes e =
    let is = found (decode_of word) bytes e in
    let ok = decode_of-ok word bytes is in
    (pairs_back 0 word bytes (sym (decode_of-even word ok.0) ∙ is), ok.3)

-- A word in small letters spells the same bytes

above_seventy : (c : ℕ) → 70 < c → (nat_le 65 c && nat_le c 70) ≡ false
above_seventy c h = and_right (nat_le 65 c) (nat_le c 70) (lt-leb c 70 h)

no_digit : (c : ℕ) → 57 < c → (nat_le 48 c && nat_le c 57) ≡ false
no_digit c h = and_right (nat_le 48 c) (nat_le c 57) (lt-leb c 57 h)

no_value : (c : ℕ) → 70 < c → (nat_le 97 c && nat_le c 102) ≡ false → hex_digit_value c ≡ None
no_value c h e =
    cond-false (nat_le 65 c && nat_le c 70) (Some (c - 55)) (cond (nat_le 97 c && nat_le c 102) (Some (c - 87)) (cond (nat_le 48 c && nat_le c 57) (Some (c - 48)) None)) (above_seventy c h)
    ∙ (cond-false (nat_le 97 c && nat_le c 102) (Some (c - 87)) (cond (nat_le 48 c && nat_le c 57) (Some (c - 48)) None) e
    ∙ cond-false (nat_le 48 c && nat_le c 57) (Some (c - 48)) None (no_digit c (omega arith)))

upper_value : (c : ℕ) → 65 ≤ c → c ≤ 70 → hex_digit_value c ≡ Some (c - 55)
upper_value c low high =
    cond-true (nat_le 65 c && nat_le c 70) (Some (c - 55)) (cond (nat_le 97 c && nat_le c 102) (Some (c - 87)) (cond (nat_le 48 c && nat_le c 57) (Some (c - 48)) None))
    (and_from (nat_le 65 c) (nat_le c 70) (le-leb 65 c low) (le-leb c 70 high))

small_value : (c : ℕ) → 97 ≤ c → c ≤ 102 → hex_digit_value c ≡ Some (c - 87)
small_value c low high =
    cond-false (nat_le 65 c && nat_le c 70) (Some (c - 55)) (cond (nat_le 97 c && nat_le c 102) (Some (c - 87)) (cond (nat_le 48 c && nat_le c 57) (Some (c - 48)) None)) (above_seventy c (omega arith))
    ∙ cond-true (nat_le 97 c && nat_le c 102) (Some (c - 87)) (cond (nat_le 48 c && nat_le c 57) (Some (c - 48)) None)
    (and_from (nat_le 97 c) (nat_le c 102) (le-leb 97 c low) (le-leb c 102 high))

capital : (c : ℕ) → 65 ≤ c → c < 91 → hex_digit_value (c + 32) ≡ hex_digit_value c
capital c low high = elim (cases_lt 70 c) [
  | inl past ↦ no_value (c + 32) (omega arith) (and_right (nat_le 97 (c + 32)) (nat_le (c + 32) 102) (lt-leb (c + 32) 102 (omega arith)))
      ∙ sym (no_value c past (and_left (nat_le 97 c) (nat_le c 102) (lt-leb 97 c (omega arith))))
  | inr within ↦ let same : (c + 32) - 87 ≡ c - 55 = omega arith in small_value (c + 32) (omega arith) (omega arith) ∙ (ap Some same ∙ sym (upper_value c low within))
]

same_value : (c : ℕ) → hex_digit_value (to_ascii_lowercase c) ≡ hex_digit_value c
same_value c = elim (cases_lt c 65) [
  | inl below ↦ ap hex_digit_value (small_below c below)
  | inr above ↦ elim (cases_lt c 91) [
    | inl letter ↦ ap hex_digit_value (small_of_capital c above letter) ∙ capital c above letter
    | inr past ↦ ap hex_digit_value (small_past c past)
  ]
]

pair_again : (a b c d i : ℕ) (bytes : List ℕ) (va vb : Option ℕ) (r other : Result (List ℕ) FromHexError) → step c d i va vb other ≡ Ok bytes → ((more : List ℕ) → other ≡ Ok more → r ≡ Ok more)
    → step a b i va vb r ≡ Ok bytes
pair_again a b c d i bytes (Some h) (Some l) r (Ok more) e k = rw (k more refl) e
pair_again a b c d i bytes (Some h) (Some l) r (Err error) e k = cc e
pair_again a b c d i bytes (Some h) None r other e k = cc e
pair_again a b c d i bytes None vb r other e k = cc e

pairs_again : (i : ℕ) (word bytes : List ℕ) → decode_pairs i (str_to_ascii_lowercase word) ≡ Ok bytes → decode_pairs i word ≡ Ok bytes
unfolding decode_pairs
pairs_again i [] bytes e = e
pairs_again i (a ∷ []) bytes e = cc e
pairs_again i (a ∷ b ∷ rest) bytes e =
    let c : ℕ = to_ascii_lowercase a in
    let d : ℕ = to_ascii_lowercase b in
    let other : Result (List ℕ) FromHexError = decode_pairs (i + 2) (str_to_ascii_lowercase rest) in
    let first = subst (λ v. step (to_ascii_lowercase a) (to_ascii_lowercase b) i v (hex_digit_value (to_ascii_lowercase b)) (decode_pairs (i + 2) (str_to_ascii_lowercase rest)) ≡ Ok bytes) (same_value a) e in
    let both = subst (λ v. step (to_ascii_lowercase a) (to_ascii_lowercase b) i (hex_digit_value a) v (decode_pairs (i + 2) (str_to_ascii_lowercase rest)) ≡ Ok bytes) (same_value b) first in
    pair_again a b (to_ascii_lowercase a) (to_ascii_lowercase b) i bytes (hex_digit_value a) (hex_digit_value b) (decode_pairs (i + 2) rest) (decode_pairs (i + 2) (str_to_ascii_lowercase rest)) both
    (λ more h. pairs_again (i + 2) rest more h)

text_spells : (word bytes : List ℕ) → str_to_ascii_lowercase word ≡ encode_lower bytes → IsBytes bytes → word_bytes_of word ≡ Some bytes
text_spells word bytes e are =
    let small : decode_of (str_to_ascii_lowercase word) ≡ Ok bytes = ap decode_of e ∙ decode_of-encode_lower bytes are in
    let even = (decode_of-ok (str_to_ascii_lowercase word) bytes small).0 in
    let same = length-map word to_ascii_lowercase in
    let even_word : length word % 2 ≡ 0 = sym (ap (λ n. n % 2) same) ∙ even in
    let pairs : decode_pairs 0 (str_to_ascii_lowercase word) ≡ Ok bytes = sym (decode_of-even (str_to_ascii_lowercase word) even) ∙ small in
    ap result_ok (decode_of-even word even_word ∙ pairs_again 0 word bytes pairs)

-- A word spells bytes if and only if, in small letters, it is their hexadecimal text.
pub hex_texts : BytesAreHex
hex_texts = λ word bytes. (λ e. spelled_text word bytes e, λ h. text_spells word bytes h.0 h.1)
