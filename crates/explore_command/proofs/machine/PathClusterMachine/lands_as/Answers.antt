use Rattle.std.proofs.Common.{List, [], ◌∷◌, ◌++◌, sym, subst}
use Rattle.step_kinds.specs.declared.plan.Plan.{Plan}
use Rattle.step_kinds.specs.declared.steps.Step.{Step}
use Rattle.ledger_model.specs.Memory.{memory_of}
use Rattle.ledger_model.specs.NetworkLog.{answer_after}
use Rattle.cluster_core.specs.Cluster.{ClusterState}
use Rattle.cluster_core.specs.LogClauses.{HasClusterMade}
use Rattle.explore_model.specs.Schedules.{landing_step}
use Rattle.explore_command.proofs.LandedLabels.{label_of}
use Rattle.explore_command.proofs.machine.PathClusterMachine.lands_as.Goals as goal

pub returns-clause-merges : goal.returns-clause-merges
returns-clause-merges c = λ yes (plan : Plan) (steps : List Step) made.
    subst (λ (cluster : ClusterState). HasClusterMade plan (steps ++ landing_step c.args.landing ∷ []) cluster) c.other.view_is
    (c.lands_as.ensures.merges yes plan steps (subst (λ (cluster : ClusterState). HasClusterMade plan steps cluster) (sym c.self.view_is) made))

pub returns-clause-apart : goal.returns-clause-apart
returns-clause-apart c = λ (plan : Plan) (steps : List Step) made landed owns.
    let label = label_of (answer_after plan (memory_of plan) steps (landing_step c.args.landing)) landed in
    c.lands_as.ensures.apart plan steps label.0 (subst (λ (cluster : ClusterState). HasClusterMade plan steps cluster) (sym c.self.view_is) made) label.1
    (subst (λ (cluster : ClusterState). HasClusterMade plan (steps ++ landing_step c.args.landing ∷ []) cluster) (sym c.other.view_is) owns)
