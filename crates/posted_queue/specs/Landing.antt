-- What it means that the write at a place in flight lands.
use Rattle.std.specs.Prelude.{ℕ, Bool, true, false, if◌then◌else◌, map, Option, Some, None, slice_get, remove}
use Rattle.order_rules.specs.Order.{Order, may_land}
use Rattle.posted_queue.specs.Flight.{Flight}
use Rattle.posted_queue.specs.declared.LandAnswer.{LandAnswer}
use Rattle.posted_queue.specs.declared.LandAnswer.TheVariants.{Landed, Blocked, Nothing}

-- the answer for the write at a place: nothing where there is none, else it landed if it may, and is blocked if not
abbrev pub answer_for : {W : Type 0} → Option W → Bool → LandAnswer W
answer_for None lands = Nothing
answer_for (Some write) true = Landed write
answer_for (Some write) false = Blocked

-- the answer to a landing at a place, if each write has its order by `order`
abbrev pub land_answer : {W : Type 0} → (W → Order) → Flight W → ℕ → LandAnswer W
land_answer order flight place = answer_for (slice_get flight.writes place) (may_land (map order flight.writes) place)

-- what is in flight after that landing: a write that may land is taken out, and else all stays
abbrev pub flight_after_landing : {W : Type 0} → (W → Order) → Flight W → ℕ → Flight W
flight_after_landing order flight place =
    if may_land (map order flight.writes) place then record { writes = remove flight.writes place; spare = flight.spare } else flight
