use Rattle.std.proofs.Common.{map}
use Rattle.std.specs.List.{range_with_len}
use Rattle.cluster_core.specs.Counts.{AddsCounts}
use Rattle.ledger_model.specs.PlanLog.{lane_count}
use Rattle.cluster_core.proofs.counts.push_sessions.Given as goal

abbrev pub invariant-loop-before : goal.invariant-loop-before
invariant-loop-before l = AddsCounts l.cluster l.fn.counts.items l.counts.items (λ plan log. map (lane_count plan log l.lane) (range_with_len 1 l.before))
