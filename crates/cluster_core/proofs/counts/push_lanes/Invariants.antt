use Rattle.std.specs.List.{flat_map}
use Rattle.cluster_core.specs.Counts.{AddsCounts, lanes_from}
use Rattle.ledger_model.specs.PlanLog.{sessions_of_lane}
use Rattle.cluster_core.proofs.counts.push_lanes.Given as goal

abbrev pub invariant-loop-queue : goal.invariant-loop-queue
invariant-loop-queue l = AddsCounts l.cluster l.fn.counts.items l.counts.items (λ plan log. flat_map (sessions_of_lane plan log) (lanes_from l.pair l.from l.queue))
