-- Which part of a cluster makes a step, and the ports of its switches.
use Rattle.std.specs.Prelude.{ℕ, ◌<◌, ◌≤◌, Bool, List, length, slice_index_or}
use Rattle.std.specs.List.{All}
use Rattle.step_kinds.specs.Limits.{most_ports}
use Rattle.step_kinds.specs.declared.names.LaneName.{LaneName}
use Rattle.step_kinds.specs.declared.plan.DevPlan.{DevPlan}
use Rattle.step_kinds.specs.declared.plan.Plan.{Plan}
use Rattle.step_kinds.specs.declared.plan.SwitchPlan.{SwitchPlan}
use Rattle.step_kinds.specs.declared.steps.Step.{Step}
use Rattle.step_kinds.specs.declared.steps.Step.TheVariants.{Copy, Relay, Xnext}
use Rattle.pair_model.specs.DeclaredPlans.{IsDeviceOn}
use Rattle.pair_model.specs.Plans.{dev_plan, no_switch}
use Rattle.ledger_model.specs.Log.{is_on}
use Rattle.ledger_model.specs.Ports.{Port}
use Rattle.cluster_core.specs.declared.parts.StepPart.{StepPart}
use Rattle.cluster_core.specs.declared.parts.StepPart.TheVariants.{Copies, OnBridges, Relays, Sends}
use Rattle.cluster_core.specs.declared.ports.PortPlace.{PortPlace}

abbrev pub part_of : Step → StepPart
part_of (Relay pair side queue switch port) = Relays switch port
part_of (Xnext pair side queue dev) = Sends (record { pair = pair; from = side; queue = queue })
part_of (Copy pair side queue) = Copies (record { pair = pair; from = side; queue = queue })
part_of step = OnBridges

-- Ports

abbrev pub cluster_port_seen : PortPlace → Port
cluster_port_seen own = record { switch = own.switch; place = own.port }

-- whether the device of a number is on a side and a queue
abbrev pub is_device_on : List DevPlan → LaneName → ℕ → Bool
is_device_on devs own dev = is_on own (dev_plan devs dev).pair (dev_plan devs dev).side (dev_plan devs dev).queue

-- a switch's few ports are devices, of which there are this many
pub record HasFewPorts (count : ℕ) (plan : SwitchPlan) : Type 0 where
  pub few : length plan.ports ≤ most_ports
  pub declared : All (λ dev. dev < count) plan.ports

-- a port of one of these switches
pub record IsPortAmong (plans : List SwitchPlan) (switch port : ℕ) : Type 0 where
  pub declared : switch < length plans
  pub among : port < length (slice_index_or plans switch no_switch).ports

-- a device is on a side and a queue
abbrev pub HasDeviceOn : Plan → LaneName → Type 0
HasDeviceOn plan own = (dev : ℕ) × IsDeviceOn plan own.pair own.from own.queue dev
