use Rattle.std.proofs.Common.{◌≡◌, ◌∙◌, List, length, map, sym, ap, subst}
use Rattle.step_kinds.specs.declared.plan.SwitchPlan.{SwitchPlan}
use Rattle.pair_model.specs.DeclaredPlans.{IsDeclared}
use Rattle.pair_model.specs.Switches.{AreSwitches}
use Rattle.pair_model.specs.Switch.{new_switch}
use Rattle.cluster_core.specs.Cluster.{ClusterState}
use Rattle.cluster_core.specs.Clusters.{HavePorts}
use Rattle.cluster_core.proofs.DeclaredNetworks.{declared_bare, made_none, plan_new, switches_declared}
use Rattle.cluster_core.proofs.HavePorts.{have_new}
use Rattle.cluster_core.proofs.cluster.Cluster.new.Goals as goal

pub invariant_of-result : goal.invariant_of-result
invariant_of-result c =
    let plan = c.args.plan.now in
    let cluster : ClusterState = record { fabric = c.in_ok-new.field-0; plans = c.in_ok-copies.field-0.items; switches = c.in_ok-new_switches.field-0.items } in
    let plans : c.in_ok-copies.field-0.items ≡ plan.switches = c.in_ok-copies.ensures ∙ c.as_slice.ensures in
    let switches : c.in_ok-new_switches.field-0.items ≡ map (λ plan. new_switch (length plan.ports)) plan.switches =
    c.in_ok-new_switches.ensures ∙ ap (λ (plans : List SwitchPlan). map (λ (plan : SwitchPlan). new_switch (length plan.ports)) plans) c.as_slice-2.ensures in
    record {
      declared = subst IsDeclared (sym c.in_ok-new.ensures.plan) (declared_bare plan c.requires.declared);
      switches = subst AreSwitches (sym (plan_new plan cluster c.in_ok-new.ensures.plan plans)) (switches_declared plan c.requires.switches);
      ports = subst (λ (plans : List SwitchPlan). HavePorts plans c.in_ok-new_switches.field-0.items) (sym plans) (subst (HavePorts plan.switches) (sym switches) (have_new plan.switches));
    }

pub returns-clause-made : goal.returns-clause-made
returns-clause-made c = λ other same.
    let plan = c.args.plan.now in
    let cluster : ClusterState = record { fabric = c.in_ok-new.field-0; plans = c.in_ok-copies.field-0.items; switches = c.in_ok-new_switches.field-0.items } in
    let plans : c.in_ok-copies.field-0.items ≡ plan.switches = c.in_ok-copies.ensures ∙ c.as_slice.ensures in
    let switches : c.in_ok-new_switches.field-0.items ≡ map (λ plan. new_switch (length plan.ports)) plan.switches =
    c.in_ok-new_switches.ensures ∙ ap (λ (plans : List SwitchPlan). map (λ (plan : SwitchPlan). new_switch (length plan.ports)) plans) c.as_slice-2.ensures in
    made_none plan other cluster c.requires.declared c.in_ok-new.ensures.stands plans switches same

pub returns-clause-plan : goal.returns-clause-plan
returns-clause-plan c =
    let plan = c.args.plan.now in
    let cluster : ClusterState = record { fabric = c.in_ok-new.field-0; plans = c.in_ok-copies.field-0.items; switches = c.in_ok-new_switches.field-0.items } in
    plan_new plan cluster c.in_ok-new.ensures.plan (c.in_ok-copies.ensures ∙ c.as_slice.ensures)
