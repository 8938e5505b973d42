-- The switches that a script can declare, and the steps that a plan with switches permits.
use Rattle.std.specs.Prelude.{◌≢◌, ℕ, ◌<◌, ◌≤◌, ◌⊎◌, length}
use Rattle.std.specs.List.{All, AllPairs, Contains}
use Rattle.step_kinds.specs.Limits.{most_switches, IsPorts}
use Rattle.step_kinds.specs.declared.names.Side.{Side}
use Rattle.step_kinds.specs.declared.plan.Plan.{Plan}
use Rattle.step_kinds.specs.declared.plan.SwitchPlan.{SwitchPlan}
use Rattle.step_kinds.specs.declared.steps.Step.{Step}
use Rattle.step_kinds.specs.declared.steps.Step.TheVariants.{Relay, Xnext}
use Rattle.pair_model.specs.DeclaredPlans.{IsDeviceOn, IsPermitted}
use Rattle.pair_model.specs.Plans.{switch_plan, port_device, ports_in}

-- a switch: 2 to 16 declared devices are its ports
pub record IsSwitch (plan : Plan) (switch : SwitchPlan) : Type 0 where
  pub ports : IsPorts (length switch.ports)
  pub declared : All (λ dev. dev < length plan.devs) switch.ports

-- A plan's switches, as a script can declare them: no device is a port twice, in one switch or in two.
pub record AreSwitches (plan : Plan) : Type 0 where
  pub few : length plan.switches ≤ most_switches
  pub each : All (IsSwitch plan) plan.switches
  pub apart : AllPairs (λ one other. one ≢ other) (ports_in plan.switches)

-- a port of a switch, with its device's queue
pub record IsPortOn (plan : Plan) (pair : ℕ) (side : Side) (queue switch port : ℕ) : Type 0 where
  pub declared : switch < length plan.switches
  pub among : port < length (switch_plan plan switch).ports
  pub device : IsDeviceOn plan pair side queue (port_device plan switch port)

-- a device that is a port of some switch, with its queue
pub record IsPortDevice (plan : Plan) (pair : ℕ) (side : Side) (queue dev : ℕ) : Type 0 where
  pub port : Contains (ports_in plan.switches) dev
  pub device : IsDeviceOn plan pair side queue dev

-- a step of a switch
abbrev pub IsSwitchStep : Plan → Step → Type 0
IsSwitchStep plan (Relay pair side queue switch port) = IsPortOn plan pair side queue switch port
IsSwitchStep plan (Xnext pair side queue dev) = IsPortDevice plan pair side queue dev
IsSwitchStep plan step = ⊥

-- A step that a script of this plan may make: one on the bridges, or one of a switch.
abbrev pub IsMakeable : Plan → Step → Type 0
IsMakeable plan step = IsPermitted plan step ⊎ IsSwitchStep plan step
