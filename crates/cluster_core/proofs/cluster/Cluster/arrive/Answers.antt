use Rattle.std.proofs.Common.{Result, Ok, Err, OnErr, OnOk, ◌⊎◌, inl, inr, subst, sym, arith}
use Rattle.cluster_core.specs.Cluster.{ClusterState}
use Rattle.cluster_core.specs.Parts.{IsPortAmong}
use Rattle.cluster_core.proofs.HavePorts.{have_arrived, inbox_within, switch_within}
use Rattle.cluster_core.proofs.cluster.Cluster.arrive.Goals as goal

either : {T E : Type 0} {P Q : Type 0} (result : Result T E) → OnOk result P → OnErr result Q → P ⊎ Q
either (Ok value) ok err = inl ok
either (Err error) ok err = inr err

pub index_mut-requires : goal.index_mut-requires
index_mut-requires c =
    let among = subst (λ (cluster : ClusterState). IsPortAmong cluster.plans c.args.place.switch c.args.place.port) (sym c.self.view_is) c.requires in
    let within = switch_within c.self.inside.plans.items c.self.inside.switches.items c.args.place.switch c.args.place.port c.self.invariant.ports among in
    omega (arith, within, c.self.inside.switches.ok.0)

pub arrive-requires : goal.arrive-requires
arrive-requires c =
    let among = subst (λ (cluster : ClusterState). IsPortAmong cluster.plans c.args.place.switch c.args.place.port) (sym c.self.view_is) c.requires in
    inbox_within c.self.inside.plans.items c.self.inside.switches.items c.args.place.switch c.args.place.port c.index_mut.result.now c.self.invariant.ports among c.index_mut.ensures.value

pub invariant_of-self : goal.invariant_of-self
invariant_of-self c =
    let among = subst (λ (cluster : ClusterState). IsPortAmong cluster.plans c.args.place.switch c.args.place.port) (sym c.self.view_is) c.requires in
    record {
      declared = c.self.invariant.declared;
      switches = c.self.invariant.switches;
      ports =
          have_arrived c.self.inside.plans.items c.self.inside.switches.items c.args.place.switch c.args.place.port c.args.frame c.index_mut.result.now c.arrive.new.self c.self.invariant.ports among
          c.index_mut.ensures.value (either c.arrive.result c.arrive.ensures.ok c.arrive.ensures.err);
    }
