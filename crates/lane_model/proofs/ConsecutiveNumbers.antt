-- Numbers counted one after another, for the crates above.
use Rattle.std.proofs.Common.{◌≡◌, ℕ, zero, suc, ◌+◌, ◌<◌, length, get_or, refl, ap, ◌∙◌, arith}
use Rattle.lane_model.specs.Lane.{count_from}

-- A list of this many consecutive numbers has just that length.
pub length-count_from : (from more : ℕ) → length (count_from from more) ≡ more
length-count_from from zero = refl
length-count_from from (suc more) = ap suc (length-count_from (suc from) more)

-- Element k of a list of consecutive numbers is the first number plus k, if k is below the list's length.
pub get_or-count_from : (from more k d : ℕ) → k < more → get_or (count_from from more) k d ≡ from + k
get_or-count_from from zero k d below = absurd (omega arith)
get_or-count_from from (suc more) zero d below = omega arith
get_or-count_from from (suc more) (suc k) d below = get_or-count_from (suc from) more k d (omega arith) ∙ omega arith
