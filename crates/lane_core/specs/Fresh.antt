-- A lane at the start of its session.
use Rattle.std.specs.Prelude.{ℕ, ◌-◌, Bool, replicate}
use Rattle.lane_model.specs.Lane.{Lane, new_lane}
pub use Rattle.lane_model.specs.Lane.{zeroed_slot}
use Rattle.lane_core.specs.Calls.{LaneValue}

-- nothing was begun, the ring is zeroed, and the index word says that all entries but one are free
abbrev pub core_fresh_lane : ℕ → ℕ → Lane
core_fresh_lane entries largest = new_lane entries largest (replicate entries (zeroed_slot largest)) (entries - 1)

abbrev pub fresh_value : ℕ → Bool → ℕ → ℕ → LaneValue
fresh_value queue is_strict entries largest = record { queue = queue; is_strict = is_strict; lane = core_fresh_lane entries largest }
