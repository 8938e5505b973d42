use Rattle.std.proofs.Common.{◌≡◌, ◌∙◌, true, sym, ap, subst, arith, set}
use Rattle.ledger_model.specs.Network.{answer_of}
use Rattle.ledger_model.specs.Ports.{Port}
use Rattle.learn_switch.specs.Frames.{SwitchBytes, bytes_after_relay, bytes_relay_answer, goes_on}
use Rattle.cluster_core.specs.Cluster.{ClusterState}
use Rattle.cluster_core.specs.Moves.{relay_answer_in, relay_goes_on, relayed_in}
use Rattle.cluster_core.specs.Parts.{IsPortAmong}
use Rattle.cluster_core.proofs.HavePorts.{have_relayed, inbox_within, switch_found, switch_within}
use Rattle.cluster_core.proofs.StepsOfNetworks.{where_err}
use Rattle.cluster_core.proofs.cluster.Cluster.relay.Goals as goal

pub index_mut-requires : goal.index_mut-requires
index_mut-requires c =
    let among = subst (λ (cluster : ClusterState). IsPortAmong cluster.plans c.args.switch c.args.port) (sym c.self.view_is) c.requires in
    let within = switch_within c.self.inside.plans.items c.self.inside.switches.items c.args.switch c.args.port c.self.invariant.ports among in
    omega (arith, within, c.self.inside.switches.ok.0)

pub relay-requires : goal.relay-requires
relay-requires c =
    let among = subst (λ (cluster : ClusterState). IsPortAmong cluster.plans c.args.switch c.args.port) (sym c.self.view_is) c.requires in
    inbox_within c.self.inside.plans.items c.self.inside.switches.items c.args.switch c.args.port c.index_mut.result.now c.self.invariant.ports among c.index_mut.ensures.value

pub invariant_of-self-2 : goal.invariant_of-self-2
invariant_of-self-2 c =
    let among = subst (λ (cluster : ClusterState). IsPortAmong cluster.plans c.args.switch c.args.port) (sym c.self.view_is) c.requires in
    record {
      declared = c.self.invariant.declared;
      switches = c.self.invariant.switches;
      ports = have_relayed c.self.inside.plans.items c.self.inside.switches.items c.args.switch c.args.port c.index_mut.result.now c.relay.new.self c.self.invariant.ports among c.index_mut.ensures.value c.in_ok-relayed.ensures.after;
    }

pub returns-clause-answer : goal.returns-clause-answer
returns-clause-answer c =
    let port : Port = record { switch = c.args.switch; place = c.args.port } in
    let among = subst (λ (cluster : ClusterState). IsPortAmong cluster.plans c.args.switch c.args.port) (sym c.self.view_is) c.requires in
    let found = switch_found c.self.inside.plans.items c.self.inside.switches.items c.args.switch c.args.port c.index_mut.result.now c.self.invariant.ports among c.index_mut.ensures.value in
    c.relay_answer.ensures ∙ ap answer_of c.in_ok-relayed.ensures.answer ∙ ap (λ (switch : SwitchBytes). answer_of (bytes_relay_answer switch c.args.port)) found
    ∙ ap (λ (cluster : ClusterState). relay_answer_in cluster port) c.self.view_is

pub returns-clause-after : goal.returns-clause-after
returns-clause-after c =
    let port : Port = record { switch = c.args.switch; place = c.args.port } in
    let among = subst (λ (cluster : ClusterState). IsPortAmong cluster.plans c.args.switch c.args.port) (sym c.self.view_is) c.requires in
    let found = switch_found c.self.inside.plans.items c.self.inside.switches.items c.args.switch c.args.port c.index_mut.result.now c.self.invariant.ports among c.index_mut.ensures.value in
    ap (λ (switch : SwitchBytes). record { fabric = c.self.inside.fabric; plans = c.self.inside.plans.items; switches = set c.self.inside.switches.items c.args.switch switch })
    (c.in_ok-relayed.ensures.after ∙ ap (λ (switch : SwitchBytes). bytes_after_relay switch c.args.port) found)
    ∙ ap (λ (cluster : ClusterState). relayed_in cluster port) c.self.view_is

pub returns-in_err-relayed-clause-wants : goal.returns-in_err-relayed-clause-wants
returns-in_err-relayed-clause-wants c =
    let port : Port = record { switch = c.args.switch; place = c.args.port } in
    let among = subst (λ (cluster : ClusterState). IsPortAmong cluster.plans c.args.switch c.args.port) (sym c.self.view_is) c.requires in
    let found = switch_found c.self.inside.plans.items c.self.inside.switches.items c.args.switch c.args.port c.index_mut.result.now c.self.invariant.ports among c.index_mut.ensures.value in
    let goes : relay_goes_on c.args.self.now port ≡ true =
    sym (ap (λ (switch : SwitchBytes). goes_on (bytes_relay_answer switch c.args.port)) found ∙ ap (λ (cluster : ClusterState). relay_goes_on cluster port) c.self.view_is) ∙ c.in_err-relayed.ensures.wants in
    where_err c.from_residual.result goes
