-- A cluster as contracts see it: the fabric of its bridges, and its switches as they are declared and as they are.
use Rattle.std.specs.Prelude.{List}
use Rattle.step_kinds.specs.declared.plan.Plan.{Plan}
use Rattle.step_kinds.specs.declared.plan.SwitchPlan.{SwitchPlan}
use Rattle.fabric_core.specs.Fabric.{FabricState, plain as plain_fabric, plan_kept}
use Rattle.learn_switch.specs.Frames.{SwitchBytes}

pub record ClusterState : Type 0 where
  pub fabric : FabricState
  pub plans : List SwitchPlan
  pub switches : List SwitchBytes

-- the plan of its pairs, devices and switches
abbrev pub plan_held : ClusterState → Plan
plan_held cluster = record (plan_kept cluster.fabric) { switches = cluster.plans }

-- the same cluster, room and pages that are promised aside
abbrev pub plain_cluster : ClusterState → ClusterState
plain_cluster cluster = record cluster { fabric = plain_fabric cluster.fabric }
