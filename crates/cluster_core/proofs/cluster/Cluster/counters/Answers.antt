use Rattle.std.proofs.Common.{subst}
use Rattle.cluster_core.specs.Cluster.{ClusterState}
use Rattle.cluster_core.specs.Clusters.{cluster_seen}
use Rattle.cluster_core.specs.LogClauses.{AreClusterCounters}
use Rattle.cluster_core.proofs.CountsOfNetworks.{counters_counted}
use Rattle.cluster_core.proofs.cluster.Cluster.counters.Goals as goal

pub returns : goal.returns
returns c =
    subst (λ (cluster : ClusterState). AreClusterCounters cluster c.args.dev c.counters.result) c.self.view_is
    (counters_counted (cluster_seen c.self.inside) c.args.dev c.counters.result c.counters.ensures)
