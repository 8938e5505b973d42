use Rattle.std.proofs.Common.{subst}
use Rattle.cluster_core.specs.Cluster.{ClusterState}
use Rattle.cluster_core.specs.Clusters.{cluster_seen}
use Rattle.cluster_core.specs.LogClauses.{IsClusterAccepted, IsClusterDelivered}
use Rattle.cluster_core.proofs.CountsOfNetworks.{accepted_counted, delivered_counted}
use Rattle.cluster_core.proofs.cluster.Cluster.ledger.Goals as goal

pub returns-clause-accepted : goal.returns-clause-accepted
returns-clause-accepted c =
    subst (λ (cluster : ClusterState). IsClusterAccepted cluster c.args.lane c.args.session c.ledger.result.0) c.self.view_is
    (accepted_counted (cluster_seen c.self.inside) c.args.lane c.args.session c.ledger.result.0 c.ledger.ensures.accepted)

pub returns-clause-delivered : goal.returns-clause-delivered
returns-clause-delivered c =
    subst (λ (cluster : ClusterState). IsClusterDelivered cluster c.args.lane c.args.session c.ledger.result.1) c.self.view_is
    (delivered_counted (cluster_seen c.self.inside) c.args.lane c.args.session c.ledger.result.1 c.ledger.ensures.delivered)
