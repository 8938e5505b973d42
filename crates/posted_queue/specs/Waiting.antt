-- What a write in flight waits for.
use Rattle.std.specs.Prelude.{ℕ, ◌==◌, if◌then◌else◌, Option, Some, None}
use Rattle.order_rules.specs.Order.{Order, relaxed}

-- the class of which it passes no earlier write: none where it is relaxed
abbrev pub class_awaited : Order → Option ℕ
class_awaited order = if order.kind == relaxed then None else Some order.class
