-- The order of each posted write of a pair: its kind and its traffic class.
use Rattle.std.specs.Prelude.{ℕ, Bool, true, false, List, slice_index}
use Rattle.step_kinds.specs.declared.names.Side.{Side}
use Rattle.step_kinds.specs.declared.names.Side.TheVariants.{A, B}
use Rattle.step_kinds.specs.declared.plan.PairPlan.{PairPlan}
use Rattle.step_kinds.specs.declared.steps.Label.{Label}
use Rattle.step_kinds.specs.declared.steps.Label.TheVariants.{Chunk, Len, Ver, Flag, Down, Bell, Index, Pad, Raw}
use Rattle.order_rules.specs.Order.{Order, relaxed, strict}

-- how a write is ordered: on a strict pair all are strict, elsewhere the fields of an entry and raw bytes are relaxed
abbrev pub kind_of : Bool → Label → ℕ
kind_of true label = strict
kind_of false (Chunk q n part) = relaxed
kind_of false (Len q n) = relaxed
kind_of false (Ver q n) = relaxed
kind_of false (Raw window offset len) = relaxed
kind_of false label = strict

-- the traffic class of a write, if each queue of its side has one: that of its queue. Scratchpads and raw bytes have
-- class 0
abbrev pub class_of : List ℕ → Label → ℕ
class_of classes (Chunk q n part) = slice_index classes q
class_of classes (Len q n) = slice_index classes q
class_of classes (Ver q n) = slice_index classes q
class_of classes (Flag q n) = slice_index classes q
class_of classes (Down q n) = slice_index classes q
class_of classes (Bell q) = slice_index classes q
class_of classes (Index q n) = slice_index classes q
class_of classes (Pad i value) = 0
class_of classes (Raw window offset len) = 0

-- the classes of the writes that a side posts
abbrev pub classes_of : PairPlan → Side → List ℕ
classes_of plan A = plan.class_a
classes_of plan B = plan.class_b

-- the order of a write that a side posts
abbrev pub order_of : PairPlan → Side → Label → Order
order_of plan side label = record { kind = kind_of plan.strict label; class = class_of (classes_of plan side) label }
