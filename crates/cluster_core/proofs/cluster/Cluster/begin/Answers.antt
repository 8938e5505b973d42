use Rattle.std.proofs.Common.{subst, sym}
use Rattle.std.proofs.lemmas.Result.{err_from_is_err_and}
use Rattle.cluster_core.specs.Cluster.{ClusterState, plan_held}
use Rattle.cluster_core.specs.Clusters.{cluster_seen}
use Rattle.cluster_core.specs.Parts.{HasDeviceOn}
use Rattle.cluster_core.proofs.DeclaredNetworks.{device_on_bridges, queue_of_device}
use Rattle.cluster_core.proofs.StepsOfNetworks.{sends, unstepped}
use Rattle.cluster_core.proofs.cluster.Cluster.begin.Goals as goal

pub step-requires : goal.step-requires
step-requires c =
    let kept : ClusterState = cluster_seen c.self.inside in
    let on : HasDeviceOn (plan_held kept) c.args.own = subst (λ (cluster : ClusterState). HasDeviceOn (plan_held cluster) c.args.own) (sym c.self.view_is) c.requires.device in
    (queue_of_device _ c.args.own c.self.invariant.declared (device_on_bridges kept c.args.own on), c.requires.fits.frame)

pub returns : goal.returns
returns c = λ dev.
    sends (cluster_seen c.self.inside) c.args.self.now c.take_out.new.self c.step.new.self c.args.own dev c.args.next c.in_ok-answer.answer c.self.view_is c.requires.first c.in_ok-answer.ensures c.take_out.ensures

pub returns-in_err-answer : goal.returns-in_err-answer
returns-in_err-answer c = λ dev.
    let p = err_from_is_err_and c.from_residual.result c.from_residual.ensures.1 in
    unstepped (cluster_seen c.self.inside) c.args.self.now c.step.new.self c.args.own dev c.args.next c.in_err-answer.field-0.0 p.0 c.from_residual.result c.self.view_is p.1 c.requires.first c.in_err-answer.ensures
