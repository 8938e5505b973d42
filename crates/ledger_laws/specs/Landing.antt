-- How the part of one lane lands among all that a side has in flight.
use Rattle.std.specs.Prelude.{◌≡◌, ℕ, Bool, true, false, Option, Some, List, length, map, remove, slice_get, take}
use Rattle.std.specs.List.{filter_map}
use Rattle.step_kinds.specs.declared.names.Side.{Side}
use Rattle.step_kinds.specs.declared.plan.PairPlan.{PairPlan}
use Rattle.step_kinds.specs.declared.steps.Label.{Label}
use Rattle.lane_model.specs.declared.Write.{Write}
use Rattle.lane_model.specs.declared.Write.TheVariants.{Data}
use Rattle.ledger_model.specs.Labels.{write_of, label_index_of}
use Rattle.order_rules.specs.Order.{Order, relaxed, strict, may_land}
use Rattle.pair_model.specs.Orders.{order_of}

-- how a write of a lane is ordered among the lane's own: on a strict pair all are strict, elsewhere the fields of an
-- entry are relaxed
abbrev pub kind_of_write : Bool → Write → ℕ
kind_of_write true write = strict
kind_of_write false (Data n field) = relaxed
kind_of_write false write = strict

-- an order by the kind alone: all writes are of one class
abbrev pub by_kind : ℕ → Order
by_kind kind = record { kind = kind; class = 0 }

-- Of a list in flight the part of a lane is what is read of it. The write at a place of the list, which is read as
-- `own`, stands in the part after what is read of those before it. It may land there by the kinds alone. As it lands
-- the part loses it and nothing else.
pub record LandsInPart {Y : Type 0} (read : Label → Option Y) (kind : Y → ℕ) (flight : List Label) (place : ℕ) (own : Y) : Type 0 where
  pub stands : slice_get (filter_map read flight) (length (filter_map read (take place flight))) ≡ Some own
  pub lands : may_land (map (λ write. by_kind (kind write)) (filter_map read flight)) (length (filter_map read (take place flight))) ≡ true
  pub leaves : filter_map read (remove flight place) ≡ remove (filter_map read flight) (length (filter_map read (take place flight)))

-- what may land among all that a side has in flight may land in the part of its lane. It is a write of the lane that
-- the side sends on a queue, or an index write of the lane that the side receives there.
pub record LandsInLane (plan : PairPlan) (q : ℕ) (flight : List Label) (place : ℕ) (label : Label) : Type 0 where
  pub write : (own : Write) → write_of q label ≡ Some own → LandsInPart (write_of q) (kind_of_write plan.strict) flight place own
  pub index : (n : ℕ) → label_index_of q label ≡ Some n → LandsInPart (label_index_of q) (λ n. strict) flight place n

abbrev pub LanePartLands : Type 0
LanePartLands = (plan : PairPlan) (side : Side) (q : ℕ) (flight : List Label) (place : ℕ) (label : Label) →
    slice_get flight place ≡ Some label → may_land (map (order_of plan side) flight) place ≡ true → LandsInLane plan q flight place label
