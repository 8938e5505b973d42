-- What a plan declares is declared by each plan with the same pairs, devices and switches; and a cluster that has made
-- nothing.
use Rattle.std.proofs.Common.{◌≡◌, ◌∙◌, ℕ, List, [], length, map, sym, ap, subst}
use Rattle.pair_model.specs.PlanParts.{declared_part}
use Rattle.step_kinds.specs.declared.names.LaneName.{LaneName}
use Rattle.step_kinds.specs.declared.names.Side.{Side}
use Rattle.step_kinds.specs.declared.plan.Line.{Line}
use Rattle.step_kinds.specs.declared.plan.Plan.{Plan}
use Rattle.step_kinds.specs.declared.plan.SwitchPlan.{SwitchPlan}
use Rattle.step_kinds.specs.declared.plan.Traffic.{Traffic}
use Rattle.step_kinds.specs.declared.steps.Step.{Step}
use Rattle.pair_model.specs.DeclaredPlans.{IsDeclared, IsPermitted, IsQueueOf}
use Rattle.pair_model.specs.Plans.{dev_plan}
use Rattle.pair_model.specs.Switches.{AreSwitches}
use Rattle.pair_model.proofs.Facade.{permitted_by_other, queue_of_other, switches_of_other, with_lists}
use Rattle.pair_model.specs.Switch.{new_switch}
use Rattle.fabric_core.specs.Fabric.{FabricState, StandsFor, bare_plan, plan_kept}
use Rattle.cluster_core.specs.Cluster.{ClusterState, plan_held}
use Rattle.cluster_core.specs.LogClauses.{HasClusterMade}
use Rattle.cluster_core.specs.Parts.{HasDeviceOn}

-- Declarations

declared_other : (plan : Plan) (switches : List SwitchPlan) (steps : List Line) (traffic : List Traffic) → IsDeclared plan → IsDeclared (with_lists plan switches steps traffic)
declared_other plan switches steps traffic declared =
    record {
      few_pairs = declared.few_pairs;
      pairs = declared.pairs;
      few_devices = declared.few_devices;
      devices = λ k below.
          let dev = declared.devices k below in
          record { queue = queue_of_other plan switches steps traffic _ _ _ dev.queue; address = dev.address; thresholds = dev.thresholds };
      one_on_a_queue = declared.one_on_a_queue;
    }

-- A plan that a script can declare is still one once its switches, steps and traffic are left out.
pub declared_bare : (plan : Plan) → IsDeclared plan → IsDeclared (bare_plan plan)
declared_bare plan declared = declared_other plan [] [] [] declared

-- Switches that a script can declare are still such once the plan's steps and traffic are left out.
pub switches_declared : (plan : Plan) → AreSwitches plan → AreSwitches (declared_part plan)
switches_declared plan are = switches_of_other plan [] [] are

-- a queue with a device is one of its side
pub queue_of_device : (plan : Plan) (own : LaneName) → IsDeclared plan → HasDeviceOn plan own → IsQueueOf plan own.pair own.from own.queue
queue_of_device plan own declared on =
    let device = dev_plan plan.devs on.0 in
    let queue : IsQueueOf plan device.pair device.side device.queue = (declared.devices on.0 on.1.declared).queue in
    subst (λ (pair : ℕ). IsQueueOf plan pair own.from own.queue) on.1.its_pair
    (subst (λ (side : Side). IsQueueOf plan device.pair side own.queue) on.1.its_side (subst (λ (queue : ℕ). IsQueueOf plan device.pair device.side queue) on.1.its_queue queue))

-- the fabric of a cluster has the same pairs and devices
pub device_on_bridges : (cluster : ClusterState) (own : LaneName) → HasDeviceOn (plan_held cluster) own → HasDeviceOn (plan_kept cluster.fabric) own
device_on_bridges cluster own on = (on.0, record { declared = on.1.declared; its_pair = on.1.its_pair; its_side = on.1.its_side; its_queue = on.1.its_queue })

-- A queue of a side by the plan that a cluster holds is one by the plan of its fabric.
pub queue_on_bridges : (cluster : ClusterState) (own : LaneName) → IsQueueOf (plan_held cluster) own.pair own.from own.queue → IsQueueOf (plan_kept cluster.fabric) own.pair own.from own.queue
queue_on_bridges cluster own may = record { declared = may.declared; among = may.among }

-- Steps

-- A step that the plan of a cluster permits on its bridges is permitted by the plan of its fabric.
pub permitted_on_bridges : (cluster : ClusterState) (step : Step) → IsPermitted (plan_held cluster) step → IsPermitted (plan_kept cluster.fabric) step
permitted_on_bridges cluster step may = permitted_by_other (plan_held cluster) [] [] [] step may

-- No step

stands_declared : (plan : Plan) (fabric : FabricState) → StandsFor plan [] fabric → StandsFor (declared_part plan) [] fabric
stands_declared plan fabric stands = record { devs = stands.devs; all_pairs = stands.all_pairs; pairs = stands.pairs }

stands_by_declared : (plan : Plan) (fabric : FabricState) → StandsFor (declared_part plan) [] fabric → StandsFor plan [] fabric
stands_by_declared plan fabric stands = record { devs = stands.devs; all_pairs = stands.all_pairs; pairs = stands.pairs }

-- A cluster with new switches whose fabric represents no steps has made none of any plan that declares the same.
pub made_none : (plan other : Plan) (cluster : ClusterState) → IsDeclared plan → StandsFor plan [] cluster.fabric → cluster.plans ≡ plan.switches →
    cluster.switches ≡ map (λ plan. new_switch (length plan.ports)) plan.switches → declared_part other ≡ declared_part plan → HasClusterMade other [] cluster
made_none plan other cluster declared stands plans switches same =
    let own : IsDeclared (declared_part other) = subst IsDeclared (sym same) (declared_other plan plan.switches [] [] declared) in
    record {
      bridges = record {
        declared = declared_other (declared_part other) other.switches other.steps other.traffic own;
        permitted = tt;
        stands = stands_by_declared other cluster.fabric (subst (λ (plan : Plan). StandsFor plan [] cluster.fabric) (sym same) (stands_declared plan cluster.fabric stands));
      };
      plans = plans ∙ sym (ap (λ (plan : Plan). plan.switches) same);
      switches = switches ∙ sym (ap (λ (plan : Plan). map (λ (switch : SwitchPlan). new_switch (length switch.ports)) plan.switches) same);
    }

-- the plan that a new cluster has
pub plan_new : (plan : Plan) (cluster : ClusterState) → plan_kept cluster.fabric ≡ bare_plan plan → cluster.plans ≡ plan.switches → plan_held cluster ≡ declared_part plan
plan_new plan cluster fabric plans =
    ap (λ (kept : Plan). record kept { switches = cluster.plans }) fabric ∙ ap (λ (switches : List SwitchPlan). record (bare_plan plan) { switches = switches }) plans
