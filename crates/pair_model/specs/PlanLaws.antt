-- Laws of plans.
use Rattle.std.specs.Prelude.{ℕ, ◌<◌}
use Rattle.step_kinds.specs.declared.names.Side.{Side}
use Rattle.step_kinds.specs.declared.plan.PairPlan.{PairPlan}
use Rattle.ring_geometry.specs.Geometry.{IsPlaced}
use Rattle.pair_model.specs.DeclaredPlans.{IsPair}
use Rattle.pair_model.specs.Plans.{side_plan}
use Rattle.pair_model.specs.Sizes.{layout_of, layout_to}

-- each queue of a side has a ring to send to and one to receive in, whatever a script declared
abbrev pub EachQueueHasARing : Type 0
EachQueueHasARing = (pair : PairPlan) (side : Side) (queue : ℕ) → IsPair pair → queue < (side_plan pair side).queues →
    IsPlaced (layout_of pair side queue) × IsPlaced (layout_to pair side queue)
