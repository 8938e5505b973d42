-- The counts that are gathered from a cluster, those of the log of whatever steps it has made. A lane has none of a
-- session without a frame.
use Rattle.std.specs.Prelude.{◌≡◌, ℕ, ◌≤◌, ◌==◌, Bool, not, ◌&&◌, List, ◌++◌, map}
use Rattle.std.specs.List.{filter, range_with_len}
use Rattle.step_kinds.specs.Sides.{other_side}
use Rattle.step_kinds.specs.declared.names.LaneName.{LaneName}
use Rattle.step_kinds.specs.declared.names.Side.{Side}
use Rattle.step_kinds.specs.declared.plan.Counters.{Counters}
use Rattle.step_kinds.specs.declared.plan.LaneCount.{LaneCount}
use Rattle.step_kinds.specs.declared.plan.Line.{Line}
use Rattle.step_kinds.specs.declared.plan.Plan.{Plan}
use Rattle.step_kinds.specs.declared.steps.Step.{Step}
use Rattle.pair_model.specs.DeclaredPlans.{IsPairOf, IsQueueOf}
use Rattle.pair_model.specs.PlanParts.{steps_in}
use Rattle.pair_model.specs.Plans.{pair_plan}
use Rattle.ledger_model.specs.Log.{Answered}
use Rattle.ledger_model.specs.PlanLog.{device_counts, lane_counts}
use Rattle.cluster_core.specs.Cluster.{ClusterState}
use Rattle.cluster_core.specs.LogClauses.{HasClusterMade, cluster_log_after}
use Rattle.cluster_core.specs.PlanSteps.{HasReplayed}

-- whether a count is of a frame at least
abbrev pub counts_some : LaneCount → Bool
counts_some count = not ((count.accepted == 0) && (count.delivered == 0))

abbrev pub filled : List LaneCount → List LaneCount
filled counts = filter counts_some counts

-- of whatever plan and lines the cluster has made, these are the counts of its lanes, and those of its devices

abbrev pub AreLaneCounts : ClusterState → List LaneCount → Type 0
AreLaneCounts cluster counts = (plan : Plan) (lines : List Line) → HasReplayed plan lines cluster → counts ≡ filled (lane_counts plan (cluster_log_after plan (steps_in lines)))

abbrev pub AreDeviceCounts : ClusterState → List Counters → Type 0
AreDeviceCounts cluster counts = (plan : Plan) (lines : List Line) → HasReplayed plan lines cluster → counts ≡ device_counts plan (cluster_log_after plan (steps_in lines))

-- How they are gathered

-- a lane of the plan: its queue is one of both sides'
pub record IsLaneOf (plan : Plan) (lane : LaneName) : Type 0 where
  pub sent : IsQueueOf plan lane.pair lane.from lane.queue
  pub received : IsQueueOf plan lane.pair (other_side lane.from) lane.queue

-- this many queues are of both sides of a pair
pub record HasQueues (plan : Plan) (pair queues : ℕ) : Type 0 where
  pub declared : IsPairOf plan pair
  pub side_a : queues ≤ (pair_plan plan pair).a.queues
  pub side_b : queues ≤ (pair_plan plan pair).b.queues

-- the lanes of a pair from a side, on this many queues
abbrev pub lanes_from : ℕ → Side → ℕ → List LaneName
lanes_from pair from queues = map (λ queue. record { pair = pair; from = from; queue = queue }) (range_with_len 0 queues)

-- The counts that were added are those of these that count a frame, whatever steps the cluster has made.
abbrev pub AddsCounts : ClusterState → List LaneCount → List LaneCount → (Plan → List Answered → List LaneCount) → Type 0
AddsCounts cluster old new counted = (plan : Plan) (steps : List Step) → HasClusterMade plan steps cluster → new ≡ old ++ filled (counted plan (cluster_log_after plan steps))
