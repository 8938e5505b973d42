-- How a script is spelled: lines and words, names, sides, numbers and bytes. Bytes are numbers: 10 is a line feed, 13 a
-- carriage return, 32 a space and 35 a number sign.
use Rattle.std.specs.Prelude.{ℕ, ◌+◌, ◌-◌, ◌*◌, ◌^◌, ◌==◌, Bool, true, false, not, ◌&&◌, ◌||◌, Option, Some, None, Result, Ok, List, [], ◌∷◌, length, map, filter, nat_lt, nat_le, if◌then◌else◌}
use Rattle.std.specs.List.{slice_split, list_all}
use Rattle.std.specs.Result.{result_ok}
use Rattle.hex.specs.Hex.{decode_of}
use Rattle.step_kinds.specs.declared.names.Side.{Side}
use Rattle.step_kinds.specs.declared.names.Side.TheVariants.{A, B}
use Rattle.script_words.specs.Tests.{◌>>=◌, fault_if, found_or, within}
use Rattle.script_words.specs.declared.fault.Cause.{Cause}
use Rattle.script_words.specs.declared.fault.Cause.TheVariants.{BadNumber, BadName, BadHex}
use Rattle.script_words.specs.declared.fault.LineFault.{LineFault}

-- Lines and words

-- a line without the carriage return that may end it
abbrev pub without_return : List ℕ → List ℕ
without_return [] = []
without_return (b ∷ []) = if b == 13 then [] else b ∷ []
without_return (b ∷ c ∷ bytes) = b ∷ without_return (c ∷ bytes)

-- the lines of a script: each but the last ends with a line feed, and the last may have no bytes
abbrev pub lines_of : List ℕ → List (List ℕ)
lines_of bytes = map without_return (slice_split (λ b. b == 10) bytes)

abbrev pub is_filled : List ℕ → Bool
is_filled [] = false
is_filled (b ∷ bytes) = true

-- the words of a line: what stands between its spaces
abbrev pub words_of : List ℕ → List (List ℕ)
words_of line = filter is_filled (slice_split (λ b. b == 32) line)

-- whether a line says nothing: it has no words, or its first byte after its spaces is a number sign
abbrev pub is_skipped : List ℕ → Bool
is_skipped [] = true
is_skipped (b ∷ bytes) = if b == 32 then is_skipped bytes else b == 35

-- whether all bytes of a line are printed characters or spaces
abbrev pub is_text : List ℕ → Bool
is_text line = list_all (λ b. nat_le 32 b && nat_le b 126) line

-- Names and sides

abbrev pub is_letter : ℕ → Bool
is_letter b = nat_le 97 b && nat_le b 122

abbrev pub is_digit : ℕ → Bool
is_digit b = nat_le 48 b && nat_le b 57

-- a name: 1 to 16 small letters and digits, the first a letter
abbrev pub is_name : List ℕ → Bool
is_name [] = false
is_name (b ∷ bytes) = is_letter b && (nat_lt (length bytes) 16 && list_all (λ c. is_letter c || is_digit c) bytes)

abbrev pub name_word : List ℕ → Result (List ℕ) Cause
name_word word = found_or (if is_name word then Some word else None) BadName

abbrev pub word_side_of : List ℕ → Option Side
word_side_of (b ∷ []) = if b == 65 then Some A else if b == 66 then Some B else None
word_side_of word = None

abbrev pub side_word : List ℕ → Result Side Cause
side_word word = found_or (word_side_of word) BadName

-- Numbers

-- the value of decimal digits after those that were read
abbrev pub value_from : ℕ → List ℕ → ℕ
value_from value [] = value
value_from value (digit ∷ digits) = value_from (value * 10 + (digit - 48)) digits

-- whether digits are as a number is printed: no leading zero but for zero itself
abbrev pub is_plain : List ℕ → Bool
is_plain [] = false
is_plain (digit ∷ []) = true
is_plain (digit ∷ next ∷ digits) = not (digit == 48)

-- the number that a word spells, below 2^32
abbrev pub word_number_of : List ℕ → Option ℕ
word_number_of word = if list_all is_digit word && (is_plain word && nat_lt (value_from 0 word) (2 ^ 32)) then Some (value_from 0 word) else None

abbrev pub number_word : List ℕ → Result ℕ Cause
number_word word = found_or (word_number_of word) BadNumber

-- the number that a word spells, from the least to the most
abbrev pub number_between : ℕ → ℕ → List ℕ → Result ℕ Cause
number_between least most word = do
  number ← number_word word
  _ ← fault_if (nat_lt number least || nat_lt most number) BadNumber
  Ok number

-- the same of word n of a line, whose fault tells the range
abbrev pub word_number_in : ℕ → ℕ → ℕ → List ℕ → Result ℕ LineFault
word_number_in n least most word = within n least most (number_between least most word)

-- Bytes

-- the bytes that a word spells by pairs of hexadecimal digits
abbrev pub word_bytes_of : List ℕ → Option (List ℕ)
word_bytes_of word = result_ok (decode_of word)

abbrev pub hex_word : List ℕ → Result (List ℕ) Cause
hex_word word = found_or (word_bytes_of word) BadHex

-- this many bytes
abbrev pub hex_of : ℕ → List ℕ → Result (List ℕ) Cause
hex_of count word = do
  bytes ← hex_word word
  _ ← fault_if (not (length bytes == count)) BadHex
  Ok bytes

-- a number of two bytes, the high one first
abbrev pub high_low : List ℕ → ℕ
high_low (high ∷ low ∷ bytes) = high * 256 + low
high_low bytes = 0

abbrev pub kind_word : List ℕ → Result ℕ Cause
kind_word word = do
  bytes ← hex_of 2 word
  Ok (high_low bytes)

-- what a word has after a key
abbrev pub behind : List ℕ → List ℕ → Option (List ℕ)
behind [] word = Some word
behind (k ∷ key) [] = None
behind (k ∷ key) (b ∷ word) = if b == k then behind key word else None
