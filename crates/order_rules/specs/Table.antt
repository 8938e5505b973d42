-- A table of order: in row `later` and column `earlier`, whether a later transaction of the one kind may pass an
-- earlier one of the other.
use Rattle.std.specs.Prelude.{ℕ, Bool, false, List, [], slice_index_or}

-- the table's answer for a later and an earlier transaction of these kinds; outside the table nothing passes
abbrev pub answer_at : List (List Bool) → ℕ → ℕ → Bool
answer_at table later earlier = slice_index_or (slice_index_or table later []) earlier false
