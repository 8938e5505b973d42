-- A side of a path, as the definitions see it, and what is kept of both.
use Rattle.std.specs.Prelude.{◌≡◌, ℕ, ◌+◌, ◌-◌, ◌≤◌, ◌/◌, Bool, Option, Some, None, List, [], ◌∷◌, ◌++◌, All, length, replicate, remove, slice_get, sum_by, if◌then◌else◌}
use Rattle.host_memory.specs.Memory.{ArePromised, written, bytes_at}
use Rattle.read_path.specs.InFlight.{PathFlying, Write, Request, Part, Last, completion_bytes, completions, path_may_land}
use Rattle.read_path.specs.Path.{PathState, SideState, memory_bytes, most_read_bytes}
use Rattle.read_path.specs.Flights.{FlightState}
use Rattle.read_path.specs.declared.end.End.{End}
use Rattle.read_path.specs.declared.path.Path.TheInside.{Inside}

abbrev pub path_end_seen : End → SideState
path_end_seen end = record { memory = end.memory.bytes; flight = end.flight.flying; reads = end.reads }

abbrev pub path_seen : Inside → PathState
path_seen path = record { link = path.link.state; session = path.link.session; sides = record { a = path_end_seen path.a; b = path_end_seen path.b } }

-- how many completions a read of this many bytes has
abbrev pub completions_of : ℕ → ℕ
completions_of len = (len - 1) / completion_bytes + 1

-- how many completions a request brings
abbrev pub completions_due : PathFlying → ℕ
completions_due (Write at bytes relaxed) = 0
completions_due (Request number at len) = completions_of len
completions_due (Part number part) = 0
completions_due (Last number bytes) = 0

abbrev pub all_due : List PathFlying → ℕ
all_due flight = sum_by completions_due flight

-- what it writes or asks for lies in a side's memory, and a request asks for a byte at least, and no more than a read
-- may
abbrev pub IsPathInRange : PathFlying → Type 0
IsPathInRange (Write at bytes relaxed) = at + length bytes ≤ memory_bytes
IsPathInRange (Request number at len) = (1 ≤ len) × (len ≤ most_read_bytes) × (at + len ≤ memory_bytes)
IsPathInRange (Part number part) = Unit {0}
IsPathInRange (Last number bytes) = Unit {0}

-- a side's memory is whole and may be written, and what it has in flight is in range
pub record IsPathEnd (end : End) : Type 0 where
  pub size : length end.memory.bytes ≡ memory_bytes
  pub writable : ArePromised 0 memory_bytes end.memory.promised
  pub in_range : All IsPathInRange end.flight.flying

-- there is room at a side for the completions that its peer's requests bring
abbrev pub HasPathRoom : End → End → Type 0
HasPathRoom end peer = all_due peer.flight.flying ≤ end.flight.spare

-- both sides of a path
pub record AreEnds (end peer : End) : Type 0 where
  pub end_whole : IsPathEnd end
  pub peer_whole : IsPathEnd peer
  pub end_room : HasPathRoom end peer
  pub peer_room : HasPathRoom peer end

abbrev pub IsPath : Inside → Type 0
IsPath path = AreEnds path.a path.b

-- What the calls do to a side

abbrev pub path_fresh_end : SideState
path_fresh_end = record { memory = replicate memory_bytes 0; flight = []; reads = 0 }

abbrev pub with_flight_state : End → FlightState → End
with_flight_state end flight = record { memory = end.memory; flight = flight; reads = end.reads }

abbrev pub path_posts : End → ℕ → List ℕ → Bool → End
path_posts end at bytes relaxed = with_flight_state end (record { flying = end.flight.flying ++ Write at bytes relaxed ∷ []; spare = end.flight.spare })

abbrev pub asks : End → ℕ → ℕ → End
asks end at len = record { memory = end.memory; flight = record { flying = end.flight.flying ++ Request end.reads at len ∷ []; spare = end.flight.spare }; reads = end.reads + 1 }

-- room is promised for the completions of a read of this many bytes
abbrev pub promises : End → ℕ → End
promises end len = with_flight_state end (record { flying = end.flight.flying; spare = end.flight.spare + completions_of len })

-- a request's completions are posted, or lost
abbrev pub brings : End → ℕ → ℕ → ℕ → Bool → End
brings end number at len up =
    with_flight_state end
    (record {
      flying = if up then end.flight.flying ++ completions number (bytes_at at len end.memory.bytes) else end.flight.flying;
      spare = end.flight.spare - completions_of len;
    })

-- a write's bytes are stored
abbrev pub stores : End → ℕ → List ℕ → End
stores end at bytes = record { memory = record { bytes = written at bytes end.memory.bytes; promised = end.memory.promised }; flight = end.flight; reads = end.reads }

-- this reaches a side
abbrev pub reached : Bool → End → PathFlying → End
reached up end (Write at bytes relaxed) = stores end at bytes
reached up end (Request number at len) = brings end number at len up
reached up end (Part number part) = end
reached up end (Last number bytes) = end

abbrev pub reached_by : Bool → End → Option PathFlying → End
reached_by up end None = end
reached_by up end (Some flying) = reached up end flying

-- what stood at a place of a side's list is gone
abbrev pub without_place : End → ℕ → End
without_place end place = with_flight_state end (record { flying = remove end.flight.flying place; spare = end.flight.spare })

-- both sides after a landing at a place of the first one's list
abbrev pub from_after : End → ℕ → End
from_after from place = if path_may_land from.flight.flying place then without_place from place else from

abbrev pub to_after : Bool → End → End → ℕ → End
to_after up from to place = if path_may_land from.flight.flying place then reached_by up to (slice_get from.flight.flying place) else to
