-- Which steps of a cluster may be out of memory, and where.
use Rattle.std.specs.Prelude.{◌&&◌, Bool, true, false, List, is_some}
use Rattle.step_kinds.specs.Subject.{subject_of}
use Rattle.step_kinds.specs.declared.plan.Plan.{Plan}
use Rattle.step_kinds.specs.declared.steps.Answer.{Answer}
use Rattle.step_kinds.specs.declared.steps.Step.{Step}
use Rattle.step_kinds.specs.declared.steps.Step.TheVariants.{Copy, Relay, Xnext}
use Rattle.fabric_core.specs.Fabric.{may_want_memory as bridges_may_want, pair_of}
use Rattle.fabric_core.specs.FrameDue.{frame_due}
use Rattle.fabric_core.specs.Wants.{MayWant}
use Rattle.cluster_core.specs.Cluster.{ClusterState}
use Rattle.cluster_core.specs.LogClauses.{IsClusterAnswered}
use Rattle.cluster_core.specs.Moves.{does_send, port_in, relay_goes_on, sending_in}

-- The steps that may answer out of memory are those of a fabric, and a copy that delivers a frame to a port. So are a
-- relay whose frame is to wait at another port, and an xnext where a frame waits.
abbrev pub cluster_may_want_memory : ClusterState → Step → Bool
cluster_may_want_memory cluster (Copy pair side queue) =
    is_some (port_in cluster (record { pair = pair; from = side; queue = queue })) && is_some (frame_due cluster.fabric (record { pair = pair; from = side; queue = queue }))
cluster_may_want_memory cluster (Relay pair side queue switch port) = relay_goes_on cluster (record { switch = switch; place = port })
cluster_may_want_memory cluster (Xnext pair side queue dev) = does_send (sending_in cluster (record { pair = pair; from = side; queue = queue }))
cluster_may_want_memory cluster step = bridges_may_want step

-- an xnext copies its frame before it is known whether the begin is refused
abbrev pub sends_waiting : Step → Bool
sends_waiting (Xnext pair side queue dev) = true
sends_waiting step = false

-- the log of these steps answers the next one, and at that answer it may be out of memory
abbrev pub IsClusterWantedAfter : Plan → List Step → ClusterState → Step → Type 0
IsClusterWantedAfter plan steps cluster step =
    (answer : Answer) × IsClusterAnswered plan steps step answer × MayWant (pair_of cluster.fabric (subject_of step)) step answer
