-- Posted writes in flight. A write is translated when it is posted, so in flight it says where it arrives.
use Rattle.std.specs.Prelude.{◌+◌, ◌<◌, ◌≤◌, min, length}
use Rattle.step_kinds.specs.Sides.{other_side}
use Rattle.step_kinds.specs.declared.names.Side.{Side}
use Rattle.step_kinds.specs.declared.plan.PairPlan.{PairPlan}
use Rattle.step_kinds.specs.declared.steps.Label.{Label}
use Rattle.order_rules.specs.Order.{Order}
use Rattle.pair_model.specs.Orders.{order_of}
use Rattle.pair_model.specs.Plans.{side_plan}
use Rattle.pair_model.specs.Addresses.{peer_address}
use Rattle.bridge_pair.specs.Writes.{PostedWrite}
use Rattle.bridge_pair.specs.declared.flying_write.Arrival.{Arrival}
use Rattle.bridge_pair.specs.declared.flying_write.Arrival.TheVariants.{AtAddress, AtPad, AtBell}
use Rattle.bridge_pair.specs.declared.write.Target.{Target}
use Rattle.bridge_pair.specs.declared.write.Target.TheVariants.{ThroughWindow, ToPad, ToBell}

pub record Flying : Type 0 where
  pub label : Label
  -- by which bridges order it
  pub order : Order
  pub arrival : Arrival

abbrev pub flying_order : Flying → Order
flying_order flying = flying.order

-- a side's write goes through a window that its peer has, and stays within the window's size and the peer's cap
abbrev pub Translates : PairPlan → Side → Target → Type 0
Translates plan side (ThroughWindow window offset bytes) =
    (window < (side_plan plan (other_side side)).windows) × (offset + length bytes ≤ min (side_plan plan side).size (side_plan plan (other_side side)).cap)
Translates plan side target = Unit {0}

-- where a side's write arrives at its peer
abbrev pub arrival_of : PairPlan → Side → Target → Arrival
arrival_of plan side (ThroughWindow window offset bytes) = AtAddress (peer_address plan side window offset) bytes
arrival_of plan side (ToPad index value) = AtPad index value
arrival_of plan side (ToBell bit) = AtBell bit

-- a side's write in flight
abbrev pub flying_of : PairPlan → Side → PostedWrite → Flying
flying_of plan side write = record { label = write.label; order = order_of plan side write.label; arrival = arrival_of plan side write.target }
