-- A line with more words than any line takes.
use Rattle.std.proofs.Common.{◌≡◌, ℕ, ◌≤◌, List, [], ◌∷◌, length, Err, refl, arith}
use Rattle.script_words.specs.Before.{Before}
use Rattle.script_words.specs.StepLines.{step_line}
use Rattle.script_words.specs.Tests.{unknown_line}
use Rattle.script_words.specs.TrafficLines.{traffic_line}

-- what is so of six words and more is so of words that are at least six
of_six : (P : List (List ℕ) → Type 0) → ((a b c d e f : List ℕ) (words : List (List ℕ)) → P (a ∷ b ∷ c ∷ d ∷ e ∷ f ∷ words)) → (words : List (List ℕ)) → 6 ≤ length words → P words
of_six P more [] h = absurd (omega arith)
of_six P more (a ∷ []) h = absurd (omega arith)
of_six P more (a ∷ b ∷ []) h = absurd (omega arith)
of_six P more (a ∷ b ∷ c ∷ []) h = absurd (omega arith)
of_six P more (a ∷ b ∷ c ∷ d ∷ []) h = absurd (omega arith)
of_six P more (a ∷ b ∷ c ∷ d ∷ e ∷ []) h = absurd (omega arith)
of_six P more (a ∷ b ∷ c ∷ d ∷ e ∷ f ∷ words) h = more a b c d e f words

-- A line of the steps with seven words or more is an unknown line, whatever its words are.
pub step_line_long : (before : Before) (word : List ℕ) (words : List (List ℕ)) → 6 ≤ length words → step_line before word words ≡ Err unknown_line
step_line_long before word = of_six (λ words. step_line before word words ≡ Err unknown_line) (λ a b c d e f words. refl)

-- A line of the traffic with seven words or more is an unknown line, whatever its words are.
pub traffic_line_long : (before : Before) (word : List ℕ) (words : List (List ℕ)) → 6 ≤ length words → traffic_line before word words ≡ Err unknown_line
traffic_line_long before word = of_six (λ words. traffic_line before word words ≡ Err unknown_line) (λ a b c d e f words. refl)
