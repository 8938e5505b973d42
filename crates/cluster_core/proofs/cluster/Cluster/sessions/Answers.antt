use Rattle.std.proofs.Common.{subst}
use Rattle.cluster_core.specs.Cluster.{ClusterState}
use Rattle.cluster_core.specs.Clusters.{cluster_seen}
use Rattle.cluster_core.specs.LogClauses.{IsClusterSession}
use Rattle.cluster_core.proofs.CountsOfNetworks.{session_counted}
use Rattle.cluster_core.proofs.cluster.Cluster.sessions.Goals as goal

pub returns : goal.returns
returns c =
    subst (λ (cluster : ClusterState). IsClusterSession cluster c.args.pair c.sessions.result) c.self.view_is
    (session_counted (cluster_seen c.self.inside) c.args.pair c.sessions.result c.sessions.ensures)
