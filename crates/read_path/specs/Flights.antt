-- What a side has in flight, as the definitions see it.
use Rattle.std.specs.Prelude.{ℕ, ◌+◌, ◌≤◌, List, [], length, map}
use Rattle.std.specs.VecDeque.{deque_len, deque_capacity}
use Rattle.read_path.specs.InFlight.{PathFlying, Write, Request, Part, Last}
use Rattle.read_path.specs.declared.flight.InFlight.{InFlight}
use Rattle.read_path.specs.declared.flight.InFlight.TheVariants.{Write as HasWrite, Request as HasRequest, Part as HasPart, Last as HasLast}
use Rattle.read_path.specs.declared.flight.Flight.TheInside.{Inside}

-- what travels, without the room that a request has for its bytes
abbrev pub path_flying_of : InFlight → PathFlying
path_flying_of (HasWrite at bytes relaxed) = Write at bytes relaxed
path_flying_of (HasRequest number at room) = Request number at (length room)
path_flying_of (HasPart number part) = Part number part
path_flying_of (HasLast number frame) = Last number frame

-- what is in flight, the oldest first, and how many more are promised
pub record FlightState : Type 0 where
  pub flying : List PathFlying
  pub spare : ℕ

abbrev pub nothing_flying : FlightState
nothing_flying = record { flying = []; spare = 0 }

abbrev pub flight_seen : Inside → FlightState
flight_seen flight = record { flying = map path_flying_of flight.items.items; spare = flight.spare }

-- there is room for what is promised
abbrev pub HasSpare : Inside → Type 0
HasSpare flight = deque_len flight.items + flight.spare ≤ deque_capacity flight.items
