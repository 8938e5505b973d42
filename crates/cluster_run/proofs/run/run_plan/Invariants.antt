use Rattle.std.proofs.Common.{length, map}
use Rattle.step_kinds.specs.Runs.{lane_shown}
use Rattle.cluster_run.specs.LaneKeys.{ComesTo}
use Rattle.cluster_run.proofs.RunSoFar.{HasCome}
use Rattle.cluster_run.proofs.run.run_plan.Given as goal

abbrev pub invariant-loop-first : goal.invariant-loop-first
invariant-loop-first g l = HasCome ComesTo l.plan l.waiting.items (map lane_shown l.parts.lanes.items) l.parts.proofs.items

abbrev pub decreases-loop-first : goal.decreases-loop-first
decreases-loop-first g l = length l.waiting.items
