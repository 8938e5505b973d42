-- The memory of a side: how large it is, and whether the windows of the peer fit there.
use Rattle.std.specs.Prelude.{ℕ, ◌*◌, ◌≤◌}
use Rattle.pair_model.specs.Plans.{side_plan}
use Rattle.step_kinds.specs.Sides.{other_side}
use Rattle.step_kinds.specs.declared.names.Side.{Side}
use Rattle.step_kinds.specs.declared.plan.PairPlan.{PairPlan}

-- the bytes of a side's memory, which has its windows one after the other
abbrev pub memory_size : PairPlan → Side → ℕ
memory_size plan side = (side_plan plan side).windows * (side_plan plan side).cap

-- the windows that the peer sends through fit those that the side's memory gives
abbrev pub WindowsFit : PairPlan → Side → Type 0
WindowsFit plan side = (side_plan plan (other_side side)).size ≤ (side_plan plan side).cap
