-- What contracts see of a cluster, and what it keeps.
use Rattle.std.specs.Prelude.{◌≡◌, List, [], ◌∷◌, length}
use Rattle.step_kinds.specs.declared.plan.SwitchPlan.{SwitchPlan}
use Rattle.pair_model.specs.DeclaredPlans.{IsDeclared}
use Rattle.pair_model.specs.Switches.{AreSwitches}
use Rattle.fabric_core.specs.Fabric.{plan_kept}
use Rattle.learn_switch.specs.Frames.{SwitchBytes}
use Rattle.cluster_core.specs.Cluster.{ClusterState, plan_held}
use Rattle.cluster_core.specs.declared.cluster.Cluster.TheInside.{Inside}

abbrev pub cluster_seen : Inside → ClusterState
cluster_seen kept = record { fabric = kept.fabric; plans = kept.plans.items; switches = kept.switches.items }

-- a switch has as many ports as are declared
pub record HasPorts (plan : SwitchPlan) (switch : SwitchBytes) : Type 0 where
  pub inboxes : length switch.inboxes ≡ length plan.ports
  pub waiting : length switch.waiting ≡ length plan.ports

abbrev pub HavePorts : List SwitchPlan → List SwitchBytes → Type 0
HavePorts [] [] = Unit {0}
HavePorts [] (switch ∷ switches) = ⊥
HavePorts (plan ∷ plans) [] = ⊥
HavePorts (plan ∷ plans) (switch ∷ switches) = HasPorts plan switch × HavePorts plans switches

-- a script can declare its pairs, devices and switches, and each switch has its ports
pub record IsCluster (kept : Inside) : Type 0 where
  pub declared : IsDeclared (plan_kept kept.fabric)
  pub switches : AreSwitches (plan_held (cluster_seen kept))
  pub ports : HavePorts kept.plans.items kept.switches.items
