-- The contract of a step of a cluster, over the cluster before and after it.
use Rattle.std.specs.Prelude.{◌≡◌, ◌≢◌, ℕ, false, true, List, [], ◌∷◌, ◌++◌, IfOk, IsErr, OnErr, OnOk, Result}
use Rattle.step_kinds.specs.declared.names.Side.{Side}
use Rattle.step_kinds.specs.declared.plan.Plan.{Plan}
use Rattle.step_kinds.specs.declared.steps.Answer.{Answer}
use Rattle.step_kinds.specs.declared.steps.Answer.TheVariants.{Landed}
use Rattle.step_kinds.specs.declared.steps.Label.{Label}
use Rattle.step_kinds.specs.declared.steps.Step.{Step}
use Rattle.step_kinds.specs.declared.steps.Step.TheVariants.{Land}
use Rattle.step_kinds.specs.Answers.{is_made}
use Rattle.cluster_core.specs.Cluster.{ClusterState, plain_cluster, plan_held}
use Rattle.cluster_core.specs.LogClauses.{HasClusterMade, IsClusterAnswered}
use Rattle.cluster_core.specs.Refusals.{cluster_refused_in}
use Rattle.cluster_core.specs.Wants.{IsClusterWantedAfter, cluster_may_want_memory, sends_waiting}

-- whatever steps of a plan it had made before
pub record HasClusterStepped {E : Type 0} (old new : ClusterState) (step : Step) (result : Result Answer E) : Type 0 where
  -- the answer is the log's of those steps and this one
  pub answered : (plan : Plan) (steps : List Step) → HasClusterMade plan steps old → IfOk result (λ answer. IsClusterAnswered plan steps step answer)
  -- then it has made them and this one
  pub made : (plan : Plan) (steps : List Step) → HasClusterMade plan steps old → OnOk result (HasClusterMade plan (steps ++ step ∷ []) new)
  -- a step that is refused leaves all as it was, promises aside, but for a device's count of refusals and what an idle
  -- port lets go
  pub refused : IfOk result (λ answer. is_made answer ≡ false → plain_cluster new ≡ plain_cluster (cluster_refused_in old step))
  -- where it is out of memory it has made the same steps, and nothing but promises of room and pages changed
  pub still_made : (plan : Plan) (steps : List Step) → HasClusterMade plan steps old → OnErr result (HasClusterMade plan steps new)
  pub err : OnErr result (plain_cluster new ≡ plain_cluster old)
  -- of the steps that may want memory alone
  pub wants : IsErr result → cluster_may_want_memory old step ≡ true
  -- and, but for an xnext, only if the log of those steps answers it with no refusal, or where a device has as many
  -- refusals as it can count
  pub border : (plan : Plan) (steps : List Step) → HasClusterMade plan steps old → sends_waiting step ≡ false → OnErr result (IsClusterWantedAfter plan steps old step)
  -- after a landing that lands nothing it has made the same steps too
  pub rests : (plan : Plan) (steps : List Step) → HasClusterMade plan steps old → (pair : ℕ) (side : Side) (place : ℕ) → step ≡ Land pair side place →
      IfOk result (λ answer. ((label : Label) → answer ≢ Landed label) → HasClusterMade plan steps new)
  -- its pairs, devices and switches stay
  pub plan : plan_held new ≡ plan_held old
