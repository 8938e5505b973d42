-- What a cluster counts is what its log has.
use Rattle.std.proofs.Common.{◌∙◌, ℕ, ◌+◌, List, count_by, length, ap, sym}
use Rattle.step_kinds.specs.declared.names.LaneName.{LaneName}
use Rattle.step_kinds.specs.declared.plan.Counters.{Counters}
use Rattle.pair_model.specs.Plans.{dev_plan}
use Rattle.ledger_model.specs.Log.{Answered, Numbered, accepted, counters_in, delivered, first_session, lane_of_device, trains}
use Rattle.ledger_model.specs.Memory.{memory_of}
use Rattle.fabric_core.specs.LogClauses.{AreCounters as AreBridgeCounters, IsAccepted as IsBridgeAccepted, IsDelivered as IsBridgeDelivered, IsSession as IsBridgeSession}
use Rattle.ledger_laws.proofs.Facade.{bridges_have_a_log, log_reads_as_bridges}
use Rattle.cluster_core.specs.Cluster.{ClusterState}
use Rattle.cluster_core.specs.LogClauses.{AreClusterCounters, IsClusterAccepted, IsClusterDelivered, IsClusterSession, cluster_log_after, network_after}

-- The number of accepted frames of a lane and session that a cluster's fabric counts is that of the cluster's log.
pub accepted_counted : (cluster : ClusterState) (lane : LaneName) (session count : ℕ) → IsBridgeAccepted cluster.fabric lane session count → IsClusterAccepted cluster lane session count
accepted_counted cluster lane session count own plan steps made =
    own plan (network_after plan steps).steps made.bridges
    ∙ ap (λ (log : List Answered). length (accepted plan log lane session)) (sym (bridges_have_a_log plan (memory_of plan) steps))
    ∙ ap (λ (frames : List Numbered). length frames) (sym ((log_reads_as_bridges plan (cluster_log_after plan steps)).same_accepted lane session))

-- The number of delivered frames of a lane and session that a cluster's fabric counts is that of the cluster's log.
pub delivered_counted : (cluster : ClusterState) (lane : LaneName) (session count : ℕ) → IsBridgeDelivered cluster.fabric lane session count → IsClusterDelivered cluster lane session count
delivered_counted cluster lane session count own plan steps made =
    own plan (network_after plan steps).steps made.bridges
    ∙ ap (λ (log : List Answered). length (delivered plan log lane session)) (sym (bridges_have_a_log plan (memory_of plan) steps))
    ∙ ap (λ (frames : List Numbered). length frames) (sym ((log_reads_as_bridges plan (cluster_log_after plan steps)).same_delivered lane session))

-- The session that a cluster's fabric says of a pair is the one that the cluster's log says.
pub session_counted : (cluster : ClusterState) (pair session : ℕ) → IsBridgeSession cluster.fabric pair session → IsClusterSession cluster pair session
session_counted cluster pair session own plan steps made =
    own plan (network_after plan steps).steps made.bridges
    ∙ ap (λ (log : List Answered). first_session plan pair + count_by (trains pair) log) (sym (bridges_have_a_log plan (memory_of plan) steps))
    ∙ ap (λ (count : ℕ). first_session plan pair + count) (sym ((log_reads_as_bridges plan (cluster_log_after plan steps)).same_sessions pair))

-- The counters that a cluster's fabric keeps of a device are those that the cluster's log says.
pub counters_counted : (cluster : ClusterState) (dev : ℕ) (counters : Counters) → AreBridgeCounters cluster.fabric dev counters → AreClusterCounters cluster dev counters
counters_counted cluster dev counters own plan steps made =
    own plan (network_after plan steps).steps made.bridges
    ∙ ap (λ (log : List Answered). counters_in plan log (lane_of_device (dev_plan plan.devs dev))) (sym (bridges_have_a_log plan (memory_of plan) steps))
    ∙ sym ((log_reads_as_bridges plan (cluster_log_after plan steps)).same_counters (lane_of_device (dev_plan plan.devs dev)))
