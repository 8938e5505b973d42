-- The laws of the clusters that have made a list of steps.
use Rattle.std.specs.Prelude.{◌≡◌, ℕ, List, [], ◌∷◌, ◌++◌}
use Rattle.step_kinds.specs.declared.names.Side.{Side}
use Rattle.step_kinds.specs.declared.plan.Plan.{Plan}
use Rattle.step_kinds.specs.declared.steps.Answer.{Answer}
use Rattle.step_kinds.specs.declared.steps.Answer.TheVariants.{Landed}
use Rattle.step_kinds.specs.declared.steps.Label.{Label}
use Rattle.step_kinds.specs.declared.steps.Step.{Step}
use Rattle.step_kinds.specs.declared.steps.Step.TheVariants.{Land}
use Rattle.cluster_core.specs.Cluster.{ClusterState}
use Rattle.cluster_core.specs.InFlight.{cluster_key_of, key_without}
use Rattle.ledger_model.specs.Memory.{memory_of}
use Rattle.ledger_model.specs.NetworkLog.{answer_after}
use Rattle.cluster_core.specs.LogClauses.{HasClusterMade, IsClusterAnswered}

-- If some step list leads to both clusters, every step list that leads to one leads to the other.
abbrev pub SameSteps : Type 0
SameSteps = (plan : Plan) (common steps : List Step) (cluster other : ClusterState) →
    HasClusterMade plan common cluster → HasClusterMade plan common other → HasClusterMade plan steps cluster → HasClusterMade plan steps other

-- They have the same key.
abbrev pub SameClusterKeys : Type 0
SameClusterKeys = (plan : Plan) (common : List Step) (cluster other : ClusterState) →
    HasClusterMade plan common cluster → HasClusterMade plan common other → cluster_key_of cluster ≡ cluster_key_of other

-- If a landing is answered `landed`, the key without that write is the key of each cluster that has made the same steps
-- and the landing after them.
abbrev pub ClusterKeyOnceLanded : Type 0
ClusterKeyOnceLanded = (plan : Plan) (steps : List Step) (pair : ℕ) (side : Side) (place : ℕ) (label : Label) (cluster after : ClusterState) →
    HasClusterMade plan steps cluster → answer_after plan (memory_of plan) steps (Land pair side place) ≡ Landed label → HasClusterMade plan (steps ++ Land pair side place ∷ []) after →
    key_without cluster pair side place ≡ cluster_key_of after

-- An answer that the log goes on with is the one that it gives to the step.
abbrev pub OneAnswer : Type 0
OneAnswer = (plan : Plan) (steps : List Step) (step : Step) (answer : Answer) →
    IsClusterAnswered plan steps step answer → answer ≡ answer_after plan (memory_of plan) steps step
