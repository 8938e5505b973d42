-- Lines of too many words.
use Rattle.std.proofs.Common.{◌≡◌, ℕ, ◌≤◌, Err, List, [], ◌∷◌, length, refl, arith}
use Rattle.script_words.specs.declared.fault.Cause.TheVariants.{UnknownWord}
use Rattle.reads_command.specs.Lines.{step_of}

-- A line of six words or more is no step of a text of reads, with the cause `UnknownWord`.
pub step_long : (words : List (List ℕ)) → 6 ≤ length words → step_of words ≡ Err UnknownWord
step_long [] many = refl
step_long (a ∷ []) many = absurd (omega (arith, many))
step_long (a ∷ b ∷ []) many = refl
step_long (a ∷ b ∷ c ∷ []) many = absurd (omega (arith, many))
step_long (a ∷ b ∷ c ∷ d ∷ []) many = absurd (omega (arith, many))
step_long (a ∷ b ∷ c ∷ d ∷ e ∷ []) many = absurd (omega (arith, many))
step_long (a ∷ b ∷ c ∷ d ∷ e ∷ f ∷ words) many = refl
