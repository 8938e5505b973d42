-- What is declared beside the names by which it is looked up.
use Rattle.std.specs.Prelude.{◌≡◌, ℕ, ◌≤◌, List, length, map}

-- the names are those of the items, in order, and at most 64
pub record NamesMatch {T : Type 0} (called : T → List ℕ) (names : List (List ℕ)) (items : List T) : Type 0 where
  pub named : names ≡ map called items
  pub few : length items ≤ 64
