use Rattle.std.proofs.Common.{◌≡◌, map, count_by}
use Rattle.std.specs.List.{range_with_len}
use Rattle.pair_model.specs.TrafficPlans.{is_break_of}
use Rattle.cluster_run.proofs.task_list.losses_by_pair.Given as goal

abbrev pub invariant-loop-pair : goal.invariant-loop-pair
invariant-loop-pair l = l.losses.items ≡ map (λ pair. count_by (is_break_of pair) l.plan.traffic) (range_with_len 0 l.pair)
