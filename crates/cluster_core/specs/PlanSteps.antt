-- What the steps of a plan, made one after another, say of a cluster and of what is kept of their answers.
use Rattle.std.specs.Prelude.{◌≡◌, List, ◌++◌}
use Rattle.std.specs.List.{fold}
use Rattle.step_kinds.specs.AnsweredSteps.{AnsweredStep}
use Rattle.step_kinds.specs.declared.plan.Line.{Line}
use Rattle.step_kinds.specs.declared.plan.Plan.{Plan}
use Rattle.pair_model.specs.PlanParts.{declared_part, steps_in}
use Rattle.ledger_model.specs.Log.{Answered}
use Rattle.ledger_model.specs.PlanLog.{answered_steps}
use Rattle.cluster_core.specs.Cluster.{ClusterState, plan_held}
use Rattle.cluster_core.specs.LogClauses.{HasClusterMade, cluster_log_after}

-- the cluster has made the steps of these lines of a plan, and keeps what the plan declares
pub record HasReplayed (plan : Plan) (lines : List Line) (cluster : ClusterState) : Type 0 where
  pub made : HasClusterMade plan (steps_in lines) cluster
  pub kept : plan_held cluster ≡ declared_part plan

-- The cluster has made these lines after those before, and what is kept of their answers was added in turn to what was
-- there.
pub record HasKept {K : Type 0} (with_answer : K → AnsweredStep → K) (plan : Plan) (before lines : List Line) (cluster : ClusterState) (old new : K) : Type 0 where
  pub replayed : HasReplayed plan (before ++ lines) cluster
  pub answers : List Answered
  pub log : cluster_log_after plan (steps_in (before ++ lines)) ≡ cluster_log_after plan (steps_in before) ++ answers
  pub kept : new ≡ fold with_answer old (answered_steps lines answers)
