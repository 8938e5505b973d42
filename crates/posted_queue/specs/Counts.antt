-- The counts that are kept beside a list of writes.
use Rattle.std.specs.Prelude.{◌≡◌, ℕ, ◌<◌, ◌==◌, Bool, List, length, count_by, slice_index}
use Rattle.order_rules.specs.Order.{Order}

-- whether a write is of this class
abbrev pub is_of_class : {W : Type 0} → (W → Order) → ℕ → W → Bool
is_of_class order class write = (order write).class == class

-- the writes are this many, and the tally says how many of them are of each class
pub record IsCounted {W : Type 0} (order : W → Order) (writes : List W) (len : ℕ) (tally : List ℕ) : Type 0 where
  pub len_is : len ≡ length writes
  pub places : length tally ≡ 8
  pub tally_is : (class : ℕ) → class < 8 → slice_index tally class ≡ count_by (is_of_class order class) writes
