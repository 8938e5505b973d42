-- Tests that the definitions of steps use: where a receiver stands, and whether a list has nothing in it.
use Rattle.std.specs.Prelude.{Bool, true, false, List, [], ◌∷◌}
use Rattle.lane_model.specs.declared.Phase.{Phase}
use Rattle.lane_model.specs.declared.Phase.TheVariants.{Idle, Copying, Copied, Cleared}

abbrev pub same_phase : Phase → Phase → Bool
same_phase Idle Idle = true
same_phase Copying Copying = true
same_phase Copied Copied = true
same_phase Cleared Cleared = true
same_phase one other = false

abbrev pub is_idle : Phase → Bool
is_idle phase = same_phase phase Idle

abbrev pub is_copying : Phase → Bool
is_copying phase = same_phase phase Copying

abbrev pub is_copied : Phase → Bool
is_copied phase = same_phase phase Copied

abbrev pub is_cleared : Phase → Bool
is_cleared phase = same_phase phase Cleared

abbrev pub is_empty_list : {X : Type 0} → List X → Bool
is_empty_list [] = true
is_empty_list (x ∷ xs) = false
