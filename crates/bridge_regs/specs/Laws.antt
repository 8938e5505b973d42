-- What doorbell and mask do, bit by bit. A register has 32 bits.
use Rattle.std.specs.Prelude.{◌≡◌, ℕ, ◌^◌, ◌<◌, not, ◌&&◌}
use Rattle.step_kinds.specs.Bits.{has_bit, without_bits}
use Rattle.bridge_regs.specs.Doorbell.{Doorbell, unmasked_pending}

-- both registers have 32 bits
abbrev pub FitsRegisters : Doorbell → Type 0
FitsRegisters bell = (bell.pending < 2 ^ 32) × (bell.masked < 2 ^ 32)

-- a bit is taken if and only if it is pending and not masked
abbrev pub TakesUnmasked : Type 0
TakesUnmasked = (bell : Doorbell) → FitsRegisters bell → (k : ℕ) → has_bit (unmasked_pending bell) k ≡ has_bit bell.pending k && not (has_bit bell.masked k)

-- a bit stays pending if and only if it was pending and is masked
abbrev pub KeepsMasked : Type 0
KeepsMasked = (bell : Doorbell) → FitsRegisters bell → (k : ℕ) → has_bit (without_bits bell.pending (unmasked_pending bell)) k ≡ has_bit bell.pending k && has_bit bell.masked k
