use Rattle.std.proofs.Common.{◌∙◌, sym}
use Rattle.cluster_core.specs.Cluster.{plan_held}
use Rattle.cluster_core.specs.Clusters.{cluster_seen}
use Rattle.cluster_core.proofs.StepsOfNetworks.{by_copying, by_relay, by_sending, on_bridges, relays, sending_device}
use Rattle.cluster_core.proofs.cluster.Cluster.step.Goals as goal

pub send_next-requires : goal.send_next-requires
send_next-requires c = sending_device (plan_held c.args.self.now) c.args.step.now c.in-Sends.own (sym c.part_of.ensures ∙ c.in-Sends.is) c.requires

pub returns-in-Relays : goal.returns-in-Relays
returns-in-Relays c =
    by_relay c.args.self.now c.relay.new.self c.args.step.now c.in-Relays.switch c.in-Relays.port c.relay.result (sym c.part_of.ensures ∙ c.in-Relays.is)
    (λ pair side queue. relays c.args.self.now c.relay.new.self pair side queue c.in-Relays.switch c.in-Relays.port c.relay.result c.relay.ensures.answer c.relay.ensures.after c.relay.ensures.err c.relay.ensures.wants)

pub returns-in-Sends : goal.returns-in-Sends
returns-in-Sends c = by_sending c.args.self.now c.send_next.new.self c.args.step.now c.in-Sends.own c.send_next.result (sym c.part_of.ensures ∙ c.in-Sends.is) c.send_next.ensures

pub returns-in-Copies : goal.returns-in-Copies
returns-in-Copies c = by_copying c.args.self.now c.copy.new.self c.args.step.now c.in-Copies.own c.copy.result (sym c.part_of.ensures ∙ c.in-Copies.is) c.copy.ensures

pub returns-in-OnBridges : goal.returns-in-OnBridges
returns-in-OnBridges c =
    on_bridges (cluster_seen c.self.inside) c.args.self.now c.step.new.self c.args.step.now c.step.result c.self.view_is (sym c.part_of.ensures ∙ c.in-OnBridges.is) c.step.ensures
