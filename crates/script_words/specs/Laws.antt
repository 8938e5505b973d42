-- Laws of words.
use Rattle.std.specs.Prelude.{◌≡◌, ℕ, ◌^◌, ◌<◌, ◌↔◌, Some, List}
use Rattle.std.specs.Fmt.{decimal}
use Rattle.std.specs.Str.{str_to_ascii_lowercase}
use Rattle.hex.specs.Hex.{IsBytes, encode_lower}
use Rattle.script_words.specs.Words.{word_number_of, word_bytes_of}

-- a word spells a number if and only if it is the number's decimal text, and the number is below 2^32
abbrev pub NumbersAreDecimal : Type 0
NumbersAreDecimal = (word : List ℕ) (n : ℕ) → (word_number_of word ≡ Some n) ↔ ((word ≡ decimal n) × (n < 2 ^ 32))

-- a word spells bytes if and only if, in small letters, it is their hexadecimal text
abbrev pub BytesAreHex : Type 0
BytesAreHex = (word bytes : List ℕ) → (word_bytes_of word ≡ Some bytes) ↔ ((str_to_ascii_lowercase word ≡ encode_lower bytes) × IsBytes bytes)
