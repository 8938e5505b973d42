use Rattle.std.proofs.Common.{ℕ, List, subst}
use Rattle.step_kinds.specs.declared.plan.Plan.{Plan}
use Rattle.step_kinds.specs.declared.steps.Step.{Step}
use Rattle.cluster_core.specs.Cluster.{ClusterState}
use Rattle.cluster_core.specs.InFlight.{ClusterLandsNoneFrom}
use Rattle.explore_command.proofs.machine.PathClusterMachine.in_flight.Goals as goal

pub returns : goal.returns
returns c = λ (plan : Plan) (steps : List Step) (place : ℕ) made beyond.
    subst (λ (cluster : ClusterState). ClusterLandsNoneFrom cluster c.args.pair c.args.side c.in_flight.result) c.self.view_is c.in_flight.ensures.beyond plan steps made place beyond
