-- The difference of two sets of bits, bit by bit.
use Rattle.std.proofs.Common.{◌≡◌, ℕ, ◌-◌, ◌^◌, ◌<◌, min, Bool, true, false, not, ◌&&◌, refl, inl, inr, sym, ◌∙◌, ap, arith}
use Rattle.std.specs.Int.{w32, bit_at, bit_not}
use Rattle.std.specs.Prelude.{bit_and}
use Rattle.std.specs.Int.Bits.{and_self}
use Rattle.std.proofs.lemmas.Nat.{and-not, and_assoc, and_comm, and_le_l}
use Rattle.std.proofs.lemmas.Nat.Bits.{bit_at_and, bit_at_not, bit_at-lt, bit_at_above}
use Rattle.std.proofs.lemmas.Bool.{cases_lt}
use Rattle.std.proofs.lemmas.Bool.Decides.{nat_tests}
use Rattle.step_kinds.specs.Bits.{has_bit, without_bits}
use Rattle.bridge_regs.specs.Laws.{TakesUnmasked, KeepsMasked}

-- what the code computes for the difference
pub and_not_is : (bits others : ℕ) → bits < 2 ^ 32 → others < 2 ^ 32 → bit_and bits (4294967295 - others) ≡ without_bits bits others
and_not_is bits others p q =
    let parts = and-not 32 others bits q p in
    let same = and_comm others bits in
    let turned = and_comm bits (4294967295 - others) in
    omega arith

-- what the code computes for the bits that a take leaves
pub left_by_take : (bits others : ℕ) → bits < 2 ^ 32 → others < 2 ^ 32
    → bit_and bits (4294967295 - bit_and bits (4294967295 - others)) ≡ bit_and bits others
left_by_take bits others p q =
    let taken = and_not_is bits others p q in
    let whole = and_le_l bits others in
    let left = and_not_is bits (bit_and bits (4294967295 - others)) p (omega (arith, and_le_l bits (4294967295 - others))) in
    let again : bit_and bits (bit_and bits (4294967295 - others)) ≡ bit_and bits (4294967295 - others) =
    sym (and_assoc (4294967295 - others) bits bits) ∙ ap (λ x. bit_and x (4294967295 - others)) (and_self bits) in
    omega arith

-- A bit is in the difference of two sets of 32 bits if and only if it is in the first and not in the second.
pub has_bit-without_bits : (bits others : ℕ) → bits < 2 ^ 32 → others < 2 ^ 32 → (k : ℕ)
    → has_bit (without_bits bits others) k ≡ has_bit bits k && not (has_bit others k)
has_bit-without_bits bits others p q k = elim (cases_lt k 32) [
  | inl inside ↦
      let e : bit_at (without_bits bits others) k ≡ min (bit_at bits k) (1 - bit_at others k) =
      rw (← and_not_is bits others p q, bit_at_and bits (bit_not w32 others) k, bit_at_not w32 others k q inside) refl in
      let a = bit_at-lt bits k in
      let b = bit_at-lt others k in
      grind (arith, nat_tests)
  | inr above ↦
      let e = bit_at_above bits 32 k p above in
      let f = bit_at_above (without_bits bits others) 32 k (omega arith) above in
      grind (arith, nat_tests)
]

and-not_and : (a b : Bool) → (a && not (a && not b)) ≡ (a && b)
and-not_and false b = refl
and-not_and true false = refl
and-not_and true true = refl

-- A take of the doorbell takes a bit if and only if it is pending and not masked.
pub takes_unmasked : TakesUnmasked
takes_unmasked bell fits k = has_bit-without_bits bell.pending bell.masked fits.0 fits.1 k

-- After a take of the doorbell a bit is still pending if and only if it was pending and is masked.
pub keeps_masked : KeepsMasked
keeps_masked bell fits k =
    let taken = has_bit-without_bits bell.pending bell.masked fits.0 fits.1 k in
    rw (has_bit-without_bits bell.pending (without_bits bell.pending bell.masked) fits.0 (omega arith) k, taken)
    (and-not_and (has_bit bell.pending k) (has_bit bell.masked k))
