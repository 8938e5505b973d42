use Rattle.std.proofs.Common.{◌≡◌, ◌∙◌, List, [], sym, subst}
use Rattle.step_kinds.specs.declared.plan.SwitchPlan.{SwitchPlan}
use Rattle.pair_model.specs.DeclaredPlans.{IsDeclared}
use Rattle.pair_model.specs.Switches.{AreSwitches}
use Rattle.fabric_core.specs.Fabric.{FabricState, plan_kept}
use Rattle.learn_switch.specs.Frames.{SwitchBytes}
use Rattle.cluster_core.specs.Cluster.{plan_held}
use Rattle.cluster_core.specs.Clusters.{HavePorts}
use Rattle.cluster_core.proofs.cluster.Cluster.copy_of.Goals as goal

pub invariant_of-result : goal.invariant_of-result
invariant_of-result c =
    let plans : c.in_ok-copies.field-0.items ≡ c.self.inside.plans.items = c.in_ok-copies.ensures ∙ c.deref.ensures.value in
    let switches : c.in_ok-switch_copies.field-0.items ≡ c.self.inside.switches.items = c.in_ok-switch_copies.ensures ∙ c.deref-2.ensures.value in
    let held = λ (fabric : FabricState) (plans : List SwitchPlan). AreSwitches (plan_held (record { fabric = fabric; plans = plans; switches = [] })) in
    record {
      declared = subst (λ (fabric : FabricState). IsDeclared (plan_kept fabric)) (sym c.in_ok-copy_of.ensures) c.self.invariant.declared;
      switches = subst (λ (fabric : FabricState). held fabric c.in_ok-copies.field-0.items) (sym c.in_ok-copy_of.ensures)
          (subst (λ (plans : List SwitchPlan). held c.self.inside.fabric plans) (sym plans) c.self.invariant.switches);
      ports = subst (λ (plans : List SwitchPlan). HavePorts plans c.in_ok-switch_copies.field-0.items) (sym plans)
          (subst (λ (switches : List SwitchBytes). HavePorts c.self.inside.plans.items switches) (sym switches) c.self.invariant.ports);
    }
