-- What holds of the lines so far and of a line's words.
use Rattle.std.specs.Prelude.{◌≡◌, ℕ, ◌<◌, List, [], ◌∷◌, length}
use Rattle.pair_model.specs.TrafficPlans.{IsWhole}
use Rattle.script_words.specs.Before.{Before}
use Rattle.script_words.specs.declared.parts.Part.TheVariants.{Declarations}

-- the lines so far declare a whole plan, and steps and traffic come after the declarations
pub record Held (before : Before) : Type 0 where
  pub whole : IsWhole before.plan
  pub declarations_first : before.part ≡ Declarations → (before.plan.steps ≡ []) × (before.plan.traffic ≡ [])

-- each word has a byte
abbrev pub Filled : List (List ℕ) → Type 0
Filled [] = Unit {0}
Filled (word ∷ words) = (0 < length word) × Filled words
