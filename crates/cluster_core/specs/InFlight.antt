-- What is in flight: from which place on nothing lands, and a key by which few clusters are looked at.
use Rattle.std.specs.Prelude.{◌≡◌, ℕ, ◌≤◌, List}
use Rattle.step_kinds.specs.declared.names.Side.{Side}
use Rattle.step_kinds.specs.declared.plan.Plan.{Plan}
use Rattle.step_kinds.specs.declared.steps.Answer.TheVariants.{Nothing}
use Rattle.step_kinds.specs.declared.steps.Step.{Step}
use Rattle.step_kinds.specs.declared.steps.Step.TheVariants.{Land}
use Rattle.fabric_core.specs.InFlight.{fabric_key, fabric_key_without}
use Rattle.cluster_core.specs.Cluster.{ClusterState}
use Rattle.ledger_model.specs.Memory.{memory_of}
use Rattle.ledger_model.specs.NetworkLog.{answer_after}
use Rattle.cluster_core.specs.LogClauses.{HasClusterMade}

-- whatever steps a cluster has made, a landing of that side at this place or a later one is answered `nothing` after
-- them
abbrev pub ClusterLandsNoneFrom : ClusterState → ℕ → Side → ℕ → Type 0
ClusterLandsNoneFrom cluster pair side count =
    (plan : Plan) (steps : List Step) → HasClusterMade plan steps cluster → (place : ℕ) → count ≤ place → answer_after plan (memory_of plan) steps (Land pair side place) ≡ Nothing

-- of the labels in flight, by their kinds and low bytes of their numbers
abbrev pub cluster_key_of : ClusterState → List ℕ
cluster_key_of cluster = fabric_key cluster.fabric

-- the key without a write: that of the cluster once the write has landed
abbrev pub key_without : ClusterState → ℕ → Side → ℕ → List ℕ
key_without cluster pair side place = fabric_key_without cluster.fabric pair side place
