-- The doorbell register of one side: a set of pending bits and a set of masked bits, each kept as one number.
use Rattle.std.specs.Prelude.{ℕ}
use Rattle.step_kinds.specs.Bits.{without_bits}

pub record Doorbell : Type 0 where
  -- the bits that were rung and not yet taken
  pub pending : ℕ
  -- the bits that aren't taken
  pub masked : ℕ

-- no bit is pending and none is masked
abbrev pub quiet : Doorbell
quiet = record { pending = 0; masked = 0 }

-- the doorbell with these pending bits
abbrev pub with_pending : Doorbell → ℕ → Doorbell
with_pending bell bits = record { pending = bits; masked = bell.masked }

-- the doorbell with these masked bits
abbrev pub with_masked : Doorbell → ℕ → Doorbell
with_masked bell bits = record { pending = bell.pending; masked = bits }

-- the bits that interrupt: those that are pending and not masked
abbrev pub unmasked_pending : Doorbell → ℕ
unmasked_pending bell = without_bits bell.pending bell.masked
