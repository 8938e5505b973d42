use Rattle.std.proofs.Common.{◌≡◌, ◌<◌, true, List, length, refl, ap, sym, subst, arith}
use Rattle.step_kinds.specs.declared.plan.SwitchPlan.{SwitchPlan}
use Rattle.pair_model.specs.Switch.{list_of}
use Rattle.learn_switch.specs.Frames.{SwitchBytes}
use Rattle.cluster_core.specs.Cluster.{ClusterState}
use Rattle.cluster_core.specs.Clusters.{cluster_seen}
use Rattle.cluster_core.specs.Moves.{HasWaiting, does_send, sending_in}
use Rattle.cluster_core.specs.Parts.{IsPortAmong}
use Rattle.cluster_core.proofs.HavePorts.{switch_found, switch_within, waiting_within}
use Rattle.cluster_core.proofs.StepsOfNetworks.{sending_is, some_waits, where_err}
use Rattle.cluster_core.proofs.cluster.Cluster.next_frame.Goals as goal

pub index-requires : goal.index-requires
index-requires c =
    let among = subst (λ (plans : List SwitchPlan). IsPortAmong plans c.in-Some.place.switch c.in-Some.place.port) c.deref.ensures.value c.in-Some.ensures.among in
    let within = switch_within c.self.inside.plans.items c.self.inside.switches.items c.in-Some.place.switch c.in-Some.place.port c.self.invariant.ports among in
    omega (arith, within, c.self.inside.switches.ok.0)

pub first-requires : goal.first-requires
first-requires c =
    let among = subst (λ (plans : List SwitchPlan). IsPortAmong plans c.in-Some.place.switch c.in-Some.place.port) c.deref.ensures.value c.in-Some.ensures.among in
    waiting_within c.self.inside.plans.items c.self.inside.switches.items c.in-Some.place.switch c.in-Some.place.port c.index.result.now c.self.invariant.ports among c.index.ensures

pub returns-clause-value : goal.returns-clause-value
returns-clause-value c =
    let among = subst (λ (plans : List SwitchPlan). IsPortAmong plans c.in-Some.place.switch c.in-Some.place.port) c.deref.ensures.value c.in-Some.ensures.among in
    let found = switch_found c.self.inside.plans.items c.self.inside.switches.items c.in-Some.place.switch c.in-Some.place.port c.index.result.now c.self.invariant.ports among c.index.ensures in
    sending_is (cluster_seen c.self.inside) c.args.self.now c.args.own c.in-Some.place c.devices.result.now c.deref.result.now c.index.result.now c.in-Some-first.frame.now c.in_ok-copy_of.field-0
    c.self.view_is c.devices.ensures c.deref.ensures.value c.in-Some.ensures.value found c.in-Some-first.ensures.value c.in_ok-copy_of.ensures

pub returns-clause-fits : goal.returns-clause-fits
returns-clause-fits c =
    let among = subst (λ (plans : List SwitchPlan). IsPortAmong plans c.in-Some.place.switch c.in-Some.place.port) c.deref.ensures.value c.in-Some.ensures.among in
    let found = switch_found c.self.inside.plans.items c.self.inside.switches.items c.in-Some.place.switch c.in-Some.place.port c.index.result.now c.self.invariant.ports among c.index.ensures in
    let same : length c.in_ok-copy_of.field-0 ≡ length c.in-Some-first.frame.now = ap length c.in_ok-copy_of.ensures in
    let waits : 0 < length (list_of c.index.result.now.waiting c.in-Some.place.port) = some_waits (list_of c.index.result.now.waiting c.in-Some.place.port) c.in-Some-first.frame.now c.in-Some-first.ensures.value in
    record {
      frame = (omega (arith, same, c.in-Some-first.ensures.header), omega (arith, same, c.frame_is_short.ensures));
      place = subst (λ (cluster : ClusterState). IsPortAmong cluster.plans c.in-Some.place.switch c.in-Some.place.port) c.self.view_is among;
      waits =
          subst (λ (cluster : ClusterState). HasWaiting cluster c.in-Some.place) c.self.view_is
          (subst (λ (switch : SwitchBytes). 0 < length (list_of switch.waiting c.in-Some.place.port)) found waits);
    }

pub returns-in_err-copy_of-clause-wants : goal.returns-in_err-copy_of-clause-wants
returns-in_err-copy_of-clause-wants c =
    let among = subst (λ (plans : List SwitchPlan). IsPortAmong plans c.in-Some.place.switch c.in-Some.place.port) c.deref.ensures.value c.in-Some.ensures.among in
    let found = switch_found c.self.inside.plans.items c.self.inside.switches.items c.in-Some.place.switch c.in-Some.place.port c.index.result.now c.self.invariant.ports among c.index.ensures in
    let sends = sending_is (cluster_seen c.self.inside) c.args.self.now c.args.own c.in-Some.place c.devices.result.now c.deref.result.now c.index.result.now c.in-Some-first.frame.now c.in-Some-first.frame.now
    c.self.view_is c.devices.ensures c.deref.ensures.value c.in-Some.ensures.value found c.in-Some-first.ensures.value refl in
    let does : does_send (sending_in c.args.self.now c.args.own) ≡ true = ap does_send (sym sends) in
    where_err c.from_residual.result does
