use Rattle.std.proofs.lemmas.Result.{err_from_is_err_and}
use Rattle.cluster_core.specs.Clusters.{cluster_seen}
use Rattle.cluster_core.proofs.DeclaredNetworks.{queue_on_bridges}
use Rattle.cluster_core.proofs.StepsOfNetworks.{copied, uncopied}
use Rattle.cluster_core.proofs.cluster.Cluster.copy.Goals as goal

pub returns : goal.returns
returns c = copied c.args.self.now c.take_in.new.self (cluster_seen c.self.inside) c.step.new.self c.args.own c.step.result c.self.view_is c.in_ok-take_in.ensures.ok c.step.ensures

pub returns-in_err-take_in : goal.returns-in_err-take_in
returns-in_err-take_in c =
    let p = err_from_is_err_and c.from_residual.result c.from_residual.ensures.1 in
    uncopied c.args.self.now c.take_in.new.self c.args.own p.0 c.from_residual.result c.in_err-take_in.ensures.err p.1 (queue_on_bridges c.args.self.now c.args.own c.requires) c.in_err-take_in.ensures.wants
