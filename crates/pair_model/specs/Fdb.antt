-- The forwarding database of a switch: the stations that are known, each with the port on which it was seen last.
use Rattle.std.specs.Prelude.{ℕ, ◌%◌, ◌==◌, ◌<◌, nat_lt, Bool, true, false, if◌then◌else◌, List, [], ◌∷◌, ◌++◌, Option, Some, None, length, take, drop, slice_index_or, slice_set}
use Rattle.std.specs.List.{position_from}
use Rattle.std.specs.Str.{bytes_eq}
use Rattle.pair_model.specs.declared.Station.{Station}

-- the stations that are known at most
abbrev pub most_stations : ℕ
most_stations = 256

-- the addresses of an Ethernet frame: six bytes of its destination, then six of its source
abbrev pub destination : List ℕ → List ℕ
destination bytes = take 6 bytes

abbrev pub source : List ℕ → List ℕ
source bytes = take 6 (drop 6 bytes)

-- an address with an odd first byte names a group of devices, and no station
abbrev pub is_multicast : List ℕ → Bool
is_multicast address = slice_index_or address 0 0 % 2 == 1

-- the place of a station in the database
abbrev pub place_of : List Station → List ℕ → Option ℕ
place_of fdb address = position_from (λ station. bytes_eq address station.address) 0 fdb

abbrev pub port_at : List Station → Option ℕ → Option ℕ
port_at fdb (Some place) = Some (slice_index_or fdb place (record { address = []; port = 0 })).port
port_at fdb None = None

-- the port of a station, if it is known
abbrev pub lookup : List Station → List ℕ → Option ℕ
lookup fdb address = port_at fdb (place_of fdb address)

-- a known station gets the port; a new one is added where there is room
abbrev pub with_station : List Station → Station → Option ℕ → List Station
with_station fdb station (Some place) = slice_set fdb place station
with_station fdb station None = if nat_lt (length fdb) most_stations then fdb ++ station ∷ [] else fdb

abbrev pub learned : List Station → List ℕ → ℕ → List Station
learned fdb address port = with_station fdb (record { address = address; port = port }) (place_of fdb address)

-- what a source on a port teaches: where the station is, unless the address names a group
abbrev pub learned_source : List Station → ℕ → List ℕ → List Station
learned_source fdb port src = if is_multicast src then fdb else learned fdb src port

-- whether a station is known after its source was learned: it was known, or there was room
abbrev pub once_learned : Bool → Option ℕ → ℕ → Option ℕ
once_learned true known port = Some port
once_learned false (Some place) port = Some port
once_learned false None port = None

-- each station was seen on one of this many ports
abbrev pub AreBelow : ℕ → List Station → Type 0
AreBelow ports [] = Unit {0}
AreBelow ports (station ∷ rest) = (station.port < ports) × AreBelow ports rest
