-- Sets of small numbers, kept as the bits of one number.
use Rattle.std.specs.Prelude.{ℕ, Bool, ◌-◌, ◌^◌, ◌/◌, ◌%◌, ◌==◌, bit_and, bit_or}

-- the set of the numbers below this one
abbrev pub all_below : ℕ → ℕ
all_below count = 2 ^ count - 1

-- the set with this number in it
abbrev pub with_bit : ℕ → ℕ → ℕ
with_bit bits k = bit_or bits (2 ^ k)

-- the set without the numbers of another
abbrev pub without_bits : ℕ → ℕ → ℕ
without_bits bits others = bits - bit_and bits others

-- whether the number is in the set
abbrev pub has_bit : ℕ → ℕ → Bool
has_bit bits k = (bits / 2 ^ k) % 2 == 1
