-- What the bridges and devices of a plan permit depends on its pairs and devices alone, and not on its switches, steps
-- and traffic.
use Rattle.std.proofs.Common.{ℕ, List, inl, inr}
use Rattle.std.proofs.lemmas.List.Elements.{All-weaker}
use Rattle.step_kinds.specs.declared.names.Side.{Side}
use Rattle.step_kinds.specs.declared.plan.Line.{Line}
use Rattle.step_kinds.specs.declared.plan.Plan.{Plan}
use Rattle.step_kinds.specs.declared.plan.SwitchPlan.{SwitchPlan}
use Rattle.step_kinds.specs.declared.plan.Traffic.{Traffic}
use Rattle.step_kinds.specs.declared.steps.Step.{Step}
use Rattle.step_kinds.specs.declared.steps.Step.TheVariants.{Ready, Join, Begin, QpDown, Xbegin, Post, Look, Copy, Clear, Ack, Wake, Relay, Xnext}
use Rattle.pair_model.specs.DeclaredPlans.{IsDeviceOn, IsPermitted, IsQueueOf}
use Rattle.pair_model.specs.Plans.{port_device}
use Rattle.pair_model.specs.Switches.{AreSwitches, IsMakeable, IsSwitch, IsSwitchStep}

-- the plan with these switches, these steps and this traffic
abbrev pub with_lists : Plan → List SwitchPlan → List Line → List Traffic → Plan
with_lists plan switches steps traffic = record plan { switches = switches; steps = steps; traffic = traffic }

module _ (plan : Plan) (switches : List SwitchPlan) (steps : List Line) (traffic : List Traffic) where
  pub queue_of_other : (pair : ℕ) (side : Side) (queue : ℕ) → IsQueueOf plan pair side queue → IsQueueOf (with_lists plan switches steps traffic) pair side queue
  queue_of_other pair side queue may = record { declared = may.declared; among = may.among }

  pub device_of_other : (pair : ℕ) (side : Side) (queue dev : ℕ) → IsDeviceOn plan pair side queue dev → IsDeviceOn (with_lists plan switches steps traffic) pair side queue dev
  device_of_other pair side queue dev may = record { declared = may.declared; its_pair = may.its_pair; its_side = may.its_side; its_queue = may.its_queue }

  pub permitted_by_other : (step : Step) → IsPermitted plan step → IsPermitted (with_lists plan switches steps traffic) step
  permitted_by_other (Ready pair side queue) may = queue_of_other pair side queue may
  permitted_by_other (Join pair side queue) may = queue_of_other pair side queue may
  permitted_by_other (Begin pair side queue frame) may = (queue_of_other pair side queue may.0, may.1)
  permitted_by_other (QpDown pair side queue) may = queue_of_other pair side queue may
  permitted_by_other (Xbegin pair side queue dev dst kind payload) may = (queue_of_other pair side queue may.0, device_of_other pair side queue dev may.1, may.2)
  permitted_by_other (Post pair side queue) may = queue_of_other pair side queue may
  permitted_by_other (Look pair side queue) may = queue_of_other pair side queue may
  permitted_by_other (Copy pair side queue) may = queue_of_other pair side queue may
  permitted_by_other (Clear pair side queue) may = queue_of_other pair side queue may
  permitted_by_other (Ack pair side queue) may = queue_of_other pair side queue may
  permitted_by_other (Wake pair side queue dev) may = (queue_of_other pair side queue may.0, device_of_other pair side queue dev may.1)
  permitted_by_other step may = may

-- The steps of switches depend on pairs, devices and switches alone.
module _ (plan : Plan) (steps : List Line) (traffic : List Traffic) where
  pub switches_of_other : AreSwitches plan → AreSwitches (with_lists plan plan.switches steps traffic)
  switches_of_other are = record {
    few = are.few;
    each = All-weaker (IsSwitch plan) (IsSwitch (with_lists plan plan.switches steps traffic)) (λ switch is. record { ports = is.ports; declared = is.declared }) plan.switches are.each;
    apart = are.apart;
  }

  switch_step_of_other : (step : Step) → IsSwitchStep plan step → IsSwitchStep (with_lists plan plan.switches steps traffic) step
  switch_step_of_other (Relay pair side queue switch port) may =
      record { declared = may.declared; among = may.among; device = device_of_other plan plan.switches steps traffic pair side queue (port_device plan switch port) may.device }
  switch_step_of_other (Xnext pair side queue dev) may = record { port = may.port; device = device_of_other plan plan.switches steps traffic pair side queue dev may.device }
  switch_step_of_other step may = absurd may

  pub makeable_by_other : (step : Step) → IsMakeable plan step → IsMakeable (with_lists plan plan.switches steps traffic) step
  makeable_by_other step (inl may) = inl (permitted_by_other plan plan.switches steps traffic step may)
  makeable_by_other step (inr may) = inr (switch_step_of_other step may)
