-- The ports of a plan's switches: each is a device, which stands on a side and a queue of a pair.
use Rattle.std.specs.Prelude.{ℕ, ◌+◌, List, [], ◌∷◌, Option, Some, None, length, map, slice_index_or, slice_set}
use Rattle.std.specs.List.{position_from}
use Rattle.step_kinds.specs.Sides.{other_side}
use Rattle.step_kinds.specs.declared.names.LaneName.{LaneName}
use Rattle.step_kinds.specs.declared.plan.DevPlan.{DevPlan}
use Rattle.step_kinds.specs.declared.plan.Plan.{Plan}
use Rattle.step_kinds.specs.declared.plan.SwitchPlan.{SwitchPlan}
use Rattle.pair_model.specs.Plans.{dev_plan}
use Rattle.ledger_model.specs.Log.{is_on}
use Rattle.pair_model.specs.Switch.{Switch, new_switch}

-- a switch and one of its ports, by their numbers from 0
pub record Port : Type 0 where
  pub switch : ℕ
  pub place : ℕ

-- A side and a queue are named as the lane on which the side sends there. This names those on which a lane is received.
abbrev pub receiver_of : LaneName → LaneName
receiver_of lane = record lane { from = other_side lane.from }

-- the port of the switch with this number, if it has one on the side and the queue, and else that of a later switch
abbrev pub ledger_port_at : ℕ → Option ℕ → Option Port → Option Port
ledger_port_at k None later = later
ledger_port_at k (Some place) later = Some (record { switch = k; place = place })

abbrev pub port_from : List DevPlan → LaneName → ℕ → List SwitchPlan → Option Port
port_from devs own k [] = None
port_from devs own k (switch ∷ rest) =
    ledger_port_at k (position_from (λ dev. is_on own (dev_plan devs dev).pair (dev_plan devs dev).side (dev_plan devs dev).queue) 0 switch.ports) (port_from devs own (k + 1) rest)

-- the port on a side and a queue
abbrev pub port_on : Plan → LaneName → Option Port
port_on plan own = port_from plan.devs own 0 plan.switches

-- the switches of a plan before any step
abbrev pub new_switches : {F : Type 0} → Plan → List (Switch F)
new_switches plan = map (λ switch. new_switch (length switch.ports)) plan.switches

-- the switch of a port, and the switches with another one in its place
abbrev pub switch_of : {F : Type 0} → List (Switch F) → Port → Switch F
switch_of switches port = slice_index_or switches port.switch (new_switch 0)

abbrev pub with_switch : {F : Type 0} → List (Switch F) → Port → Switch F → List (Switch F)
with_switch switches port switch = slice_set switches port.switch switch
