-- The sides of a pair, and its lanes by the side that sends there.
use Rattle.std.specs.Prelude.{◌==◌, Bool, true, false, ◌&&◌}
use Rattle.step_kinds.specs.declared.names.LaneName.{LaneName}
use Rattle.step_kinds.specs.declared.names.Side.{Side}
use Rattle.step_kinds.specs.declared.names.Side.TheVariants.{A, B}

-- a side's peer
abbrev pub other_side : Side → Side
other_side A = B
other_side B = A

abbrev pub same_side : Side → Side → Bool
same_side A A = true
same_side A B = false
same_side B A = false
same_side B B = true

-- whether two lanes are one
abbrev pub same_lane : LaneName → LaneName → Bool
same_lane one other = (one.pair == other.pair) && (same_side one.from other.from && (one.queue == other.queue))
