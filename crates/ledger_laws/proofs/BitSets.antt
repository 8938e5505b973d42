-- Sets of small numbers as the bits of a number: one number more, and those that are taken out.
use Rattle.std.proofs.Common.{◌≡◌, ℕ, zero, suc, ◌-◌, ◌≤◌, true, false, inl, inr, sym, ap, ◌∙◌, arith}
use Rattle.std.specs.Prelude.{◌==◌, ◌^◌, ◌/◌, ◌%◌, bit_and, bit_or}
use Rattle.std.specs.Int.{bit_at}
use Rattle.std.proofs.lemmas.Bool.{eq-eqb, eqb-true, eqb-false, both_ways, cases_Bool}
use Rattle.std.proofs.lemmas.Nat.{and_shr, and_mod, and_le_l}
use Rattle.std.proofs.lemmas.Nat.Bits.{bit_at-suc, bit_at_lowest, bit_at-lt, bit_at_or, bit_at-pow_same, bit_at-zero}
use Rattle.step_kinds.specs.Bits.{has_bit, with_bit, without_bits}

-- one number more
bit-set : (b : ℕ) → b ≡ 1 → (b == 1) ≡ true
bit-set b e = eq-eqb b 1 e

-- A set of bits has the bit that was just set in it.
pub has-with_same : (bits k : ℕ) → has_bit (with_bit bits k) k ≡ true
has-with_same bits k =
    bit-set (bit_at (bit_or bits (2 ^ k)) k)
    (let e = bit_at_or bits (2 ^ k) k in
    let one = bit_at-pow_same k in
    let small = bit_at-lt bits k in
    omega arith)

-- Setting a bit keeps each bit that the set had.
pub has-with_kept : (bits j k : ℕ) → has_bit bits j ≡ true → has_bit (with_bit bits k) j ≡ true
has-with_kept bits j k has =
    bit-set (bit_at (bit_or bits (2 ^ k)) j)
    (let e = bit_at_or bits (2 ^ k) j in
    let one = eqb-true (bit_at bits j) 1 has in
    let small = bit_at-lt (2 ^ k) j in
    omega arith)

-- no number is in the empty set
pub no_bit : (bits k : ℕ) → bits ≡ 0 → has_bit bits k ≡ true → ⊥
no_bit bits k none has = both_ways (has_bit bits k) (ap (λ b. has_bit b k) none ∙ ap (λ b. b == 1) (bit_at-zero k)) has

-- what isn't in the set with a number more wasn't in it before
pub has-without : (bits j k : ℕ) → has_bit (with_bit bits k) j ≡ false → has_bit bits j ≡ false
has-without bits j k no_more = elim (cases_Bool (has_bit bits j)) [
  | inl has ↦ absurd (both_ways (has_bit (with_bit bits k) j) no_more (has-with_kept bits j k has))
  | inr has_not ↦ has_not
]

-- the lowest bit, and the rest, of a set without some of its own
without_halves : (p a : ℕ) → a / 2 ≤ p / 2 → a % 2 ≤ p % 2 → ((p - a) / 2 ≡ p / 2 - a / 2) × ((p - a) % 2 ≡ p % 2 - a % 2)
without_halves p a h l = (omega arith, omega arith)

half_and : (p m : ℕ) → bit_and p m / 2 ≡ bit_and (p / 2) (m / 2)
half_and p m = and_shr p m 1

low_and : (p m : ℕ) → bit_and p m % 2 ≤ p % 2
low_and p m = let e : bit_and p m % 2 ≡ bit_and (p % 2) (m % 2) = and_mod p m 1 in let l = and_le_l (p % 2) (m % 2) in omega arith

halves : (p m : ℕ) → ((p - bit_and p m) / 2 ≡ p / 2 - bit_and p m / 2) × ((p - bit_and p m) % 2 ≡ p % 2 - bit_and p m % 2)
halves p m = without_halves p (bit_and p m) (let e = half_and p m in let l = and_le_l (p / 2) (m / 2) in omega arith) (low_and p m)

without-bit : (k p m : ℕ) → bit_at (p - bit_and p m) k ≡ bit_at p k - bit_at (bit_and p m) k
without-bit zero p m =
    bit_at_lowest (p - bit_and p m) ∙ (halves p m).1
    ∙ (let a = bit_at_lowest p in let b = bit_at_lowest (bit_and p m) in ap (λ x. x - bit_and p m % 2) (sym a) ∙ ap (λ x. bit_at p 0 - x) (sym b))
without-bit (suc k) p m =
    bit_at-suc (p - bit_and p m) k
    ∙ ap (λ n. bit_at n k) ((halves p m).0 ∙ ap (λ n. p / 2 - n) (half_and p m))
    ∙ without-bit k (p / 2) (m / 2)
    ∙ ap (λ n. bit_at (p / 2) k - bit_at n k) (sym (half_and p m))
    ∙ ap (λ n. n - bit_at (bit_and p m / 2) k) (sym (bit_at-suc p k))
    ∙ ap (λ n. bit_at p (suc k) - n) (sym (bit_at-suc (bit_and p m) k))

-- a doorbell that is pending and wasn't taken is masked, and so stays pending
pub stays_pending : (p m k : ℕ) → has_bit p k ≡ true → has_bit (without_bits p m) k ≡ false → has_bit (bit_and p m) k ≡ true
stays_pending p m k has left =
    eq-eqb (bit_at (bit_and p m) k) 1
    (let one = eqb-true (bit_at p k) 1 has in
    let not_one = eqb-false (bit_at (p - bit_and p m) k) 1 left in
    let e = without-bit k p m in
    let small = bit_at-lt (bit_and p m) k in
    grind (arith, not_one))
