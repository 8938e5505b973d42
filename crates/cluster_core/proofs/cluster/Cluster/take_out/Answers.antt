use Rattle.std.proofs.Common.{◌<◌, length, sym, subst, arith}
use Rattle.pair_model.specs.Switch.{list_of}
use Rattle.learn_switch.specs.Frames.{SwitchBytes}
use Rattle.cluster_core.specs.Cluster.{ClusterState}
use Rattle.cluster_core.specs.Moves.{HasWaiting}
use Rattle.cluster_core.specs.Parts.{IsPortAmong}
use Rattle.cluster_core.proofs.HavePorts.{have_sent, switch_found, switch_within, waiting_within}
use Rattle.cluster_core.proofs.cluster.Cluster.take_out.Goals as goal

pub index_mut-requires : goal.index_mut-requires
index_mut-requires c =
    let among = subst (λ (cluster : ClusterState). IsPortAmong cluster.plans c.args.place.switch c.args.place.port) (sym c.self.view_is) c.requires.place in
    let within = switch_within c.self.inside.plans.items c.self.inside.switches.items c.args.place.switch c.args.place.port c.self.invariant.ports among in
    omega (arith, within, c.self.inside.switches.ok.0)

pub sent-requires-clause-below : goal.sent-requires-clause-below
sent-requires-clause-below c =
    let among = subst (λ (cluster : ClusterState). IsPortAmong cluster.plans c.args.place.switch c.args.place.port) (sym c.self.view_is) c.requires.place in
    waiting_within c.self.inside.plans.items c.self.inside.switches.items c.args.place.switch c.args.place.port c.index_mut.result.now c.self.invariant.ports among c.index_mut.ensures.value

pub sent-requires-clause-waits : goal.sent-requires-clause-waits
sent-requires-clause-waits c =
    let among = subst (λ (cluster : ClusterState). IsPortAmong cluster.plans c.args.place.switch c.args.place.port) (sym c.self.view_is) c.requires.place in
    let found = switch_found c.self.inside.plans.items c.self.inside.switches.items c.args.place.switch c.args.place.port c.index_mut.result.now c.self.invariant.ports among c.index_mut.ensures.value in
    subst (λ (switch : SwitchBytes). 0 < length (list_of switch.waiting c.args.place.port)) (sym found) (subst (λ (cluster : ClusterState). HasWaiting cluster c.args.place) (sym c.self.view_is) c.requires.waits)

pub invariant_of-self : goal.invariant_of-self
invariant_of-self c =
    let among = subst (λ (cluster : ClusterState). IsPortAmong cluster.plans c.args.place.switch c.args.place.port) (sym c.self.view_is) c.requires.place in
    record {
      declared = c.self.invariant.declared;
      switches = c.self.invariant.switches;
      ports = have_sent c.self.inside.plans.items c.self.inside.switches.items c.args.place.switch c.args.place.port c.index_mut.result.now c.sent.new.self c.self.invariant.ports among c.index_mut.ensures.value c.sent.ensures;
    }
