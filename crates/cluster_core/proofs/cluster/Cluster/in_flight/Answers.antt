use Rattle.std.proofs.Common.{◌≡◌, length, subst}
use Rattle.bridge_pair.specs.Bridge.{flight_of}
use Rattle.fabric_core.specs.Fabric.{pair_of}
use Rattle.cluster_core.specs.Cluster.{ClusterState}
use Rattle.cluster_core.specs.Clusters.{cluster_seen}
use Rattle.cluster_core.specs.InFlight.{ClusterLandsNoneFrom}
use Rattle.cluster_core.proofs.SameClusters.{lands_none}
use Rattle.cluster_core.proofs.cluster.Cluster.in_flight.Goals as goal

pub returns-clause-count : goal.returns-clause-count
returns-clause-count c =
    subst (λ (cluster : ClusterState). c.in_flight.result ≡ length (flight_of (pair_of cluster.fabric c.args.pair).bridge c.args.side).writes) c.self.view_is c.in_flight.ensures.count

pub returns-clause-beyond : goal.returns-clause-beyond
returns-clause-beyond c =
    subst (λ (cluster : ClusterState). ClusterLandsNoneFrom cluster c.args.pair c.args.side c.in_flight.result) c.self.view_is
    (lands_none (cluster_seen c.self.inside) c.args.pair c.args.side c.in_flight.result c.in_flight.ensures.beyond)
