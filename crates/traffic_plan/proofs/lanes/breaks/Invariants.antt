use Rattle.std.proofs.Common.{◌≡◌, count_by, take}
use Rattle.pair_model.specs.TrafficPlans.{is_break_of}
use Rattle.traffic_plan.proofs.lanes.breaks.Given as goal

abbrev pub invariant-loop-item : goal.invariant-loop-item
invariant-loop-item l = l.count ≡ count_by (is_break_of l.pair) (take l.item-index l.item-items)
