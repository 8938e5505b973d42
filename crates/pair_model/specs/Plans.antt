-- The pairs, sides, devices and switches of a plan by their numbers.
use Rattle.std.specs.Prelude.{ℕ, false, List, [], replicate, slice_index, slice_index_or}
use Rattle.std.specs.List.{flat_map}
use Rattle.step_kinds.specs.declared.names.Side.{Side}
use Rattle.step_kinds.specs.declared.names.Side.TheVariants.{A, B}
use Rattle.step_kinds.specs.declared.plan.SidePlan.{SidePlan}
use Rattle.step_kinds.specs.declared.plan.PairPlan.{PairPlan}
use Rattle.step_kinds.specs.declared.plan.DevPlan.{DevPlan}
use Rattle.step_kinds.specs.declared.plan.SwitchPlan.{SwitchPlan}
use Rattle.step_kinds.specs.declared.plan.Plan.{Plan}

abbrev pub no_side : SidePlan
no_side = record { version = 0; queues = 0; windows = 0; size = 0; cap = 0 }

abbrev pub no_pair : PairPlan
no_pair = record { name = []; a = no_side; b = no_side; mtu = 0; up = false; strict = false; raw = false; class_a = replicate 16 0; class_b = replicate 16 0 }

abbrev pub no_dev : DevPlan
no_dev = record { name = []; pair = 0; side = A; queue = 0; address = []; stop = 0; start = 0 }

abbrev pub dev_plan : List DevPlan → ℕ → DevPlan
dev_plan devs k = slice_index_or devs k no_dev

abbrev pub pair_plan : Plan → ℕ → PairPlan
pair_plan plan k = slice_index_or plan.pairs k no_pair

abbrev pub side_plan : PairPlan → Side → SidePlan
side_plan plan A = plan.a
side_plan plan B = plan.b

-- Switches

abbrev pub no_switch : SwitchPlan
no_switch = record { name = []; ports = [] }

abbrev pub switch_plan : Plan → ℕ → SwitchPlan
switch_plan plan k = slice_index_or plan.switches k no_switch

-- the device that is a port of a switch, by its number
abbrev pub port_device : Plan → ℕ → ℕ → ℕ
port_device plan switch port = slice_index (switch_plan plan switch).ports port

-- the devices that are ports, switch by switch
abbrev pub ports_in : List SwitchPlan → List ℕ
ports_in switches = flat_map (λ switch. switch.ports) switches
