-- What the calls of a cluster say of the log of the steps that it has made.
use Rattle.std.specs.Prelude.{◌≡◌, ℕ, ◌+◌, List, [], ◌∷◌, ◌++◌, count_by, length}
use Rattle.step_kinds.specs.declared.names.LaneName.{LaneName}
use Rattle.step_kinds.specs.declared.plan.Counters.{Counters}
use Rattle.step_kinds.specs.declared.plan.Plan.{Plan}
use Rattle.step_kinds.specs.declared.steps.Answer.{Answer}
use Rattle.step_kinds.specs.declared.steps.Step.{Step}
use Rattle.pair_model.specs.Plans.{dev_plan}
use Rattle.ledger_model.specs.Log.{Answered, accepted, counters_in, delivered, first_session, lane_of_device, trains}
use Rattle.ledger_model.specs.Memory.{memory_of}
use Rattle.fabric_core.specs.LogClauses.{HasMade as HasMadeOnBridges}
use Rattle.ledger_model.specs.NetworkLog.{network_of, switch_log}
use Rattle.ledger_model.specs.Network.{Network}
use Rattle.cluster_core.specs.Cluster.{ClusterState}

-- the log of steps and the network after them, whose memories show what was stored

abbrev pub cluster_log_after : Plan → List Step → List Answered
cluster_log_after plan steps = switch_log plan (memory_of plan) steps

abbrev pub network_after : Plan → List Step → Network (List ℕ)
network_after plan steps = network_of plan (memory_of plan) steps

-- The cluster is this network of the plan: its fabric represents the steps that were made on bridges, and its switches
-- are these.
pub record IsNetwork (plan : Plan) (net : Network (List ℕ)) (cluster : ClusterState) : Type 0 where
  pub bridges : HasMadeOnBridges plan net.steps cluster.fabric
  pub plans : cluster.plans ≡ plan.switches
  pub switches : cluster.switches ≡ net.switches

-- the cluster has made these steps of the plan
abbrev pub HasClusterMade : Plan → List Step → ClusterState → Type 0
HasClusterMade plan steps cluster = IsNetwork plan (network_after plan steps) cluster

-- after these steps the step is answered as the log with it says, in which it may stand as another one
pub record IsClusterAnswered (plan : Plan) (steps : List Step) (step : Step) (answer : Answer) : Type 0 where
  pub stands_as : Step
  pub goes_on : cluster_log_after plan (steps ++ step ∷ []) ≡ cluster_log_after plan steps ++ record { step = stands_as; answer = answer } ∷ []

-- whatever steps a cluster has made, these are the frames of a lane in a session that their log has

abbrev pub IsClusterAccepted : ClusterState → LaneName → ℕ → ℕ → Type 0
IsClusterAccepted cluster lane session count = (plan : Plan) (steps : List Step) → HasClusterMade plan steps cluster → count ≡ length (accepted plan (cluster_log_after plan steps) lane session)

abbrev pub IsClusterDelivered : ClusterState → LaneName → ℕ → ℕ → Type 0
IsClusterDelivered cluster lane session count = (plan : Plan) (steps : List Step) → HasClusterMade plan steps cluster → count ≡ length (delivered plan (cluster_log_after plan steps) lane session)

-- the session of a pair, and the counters of a device

abbrev pub IsClusterSession : ClusterState → ℕ → ℕ → Type 0
IsClusterSession cluster pair session = (plan : Plan) (steps : List Step) → HasClusterMade plan steps cluster → session ≡ first_session plan pair + count_by (trains pair) (cluster_log_after plan steps)

abbrev pub AreClusterCounters : ClusterState → ℕ → Counters → Type 0
AreClusterCounters cluster dev counters = (plan : Plan) (steps : List Step) → HasClusterMade plan steps cluster → counters ≡ counters_in plan (cluster_log_after plan steps) (lane_of_device (dev_plan plan.devs dev))
