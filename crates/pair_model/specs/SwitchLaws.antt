-- What holds of every forwarding database, and of every flood.
use Rattle.std.specs.Prelude.{◌≡◌, ℕ, ◌<◌, ◌≤◌, nat_lt, false, List, [], ◌∷◌, ◌++◌, length, IfSome}
use Rattle.std.specs.Str.{bytes_eq}
use Rattle.pair_model.specs.Fdb.{AreBelow, learned, lookup, most_stations, once_learned}
use Rattle.pair_model.specs.Switch.{flooded, list_of}
use Rattle.pair_model.specs.declared.Station.{Station}

-- a station that was learned is on the port on which it was seen last, if it was known or there was room; else it isn't
-- known
abbrev pub LearnedIsFound : Type 0
LearnedIsFound = (fdb : List Station) (a : List ℕ) (port : ℕ) → lookup (learned fdb a port) a ≡ once_learned (nat_lt (length fdb) most_stations) (lookup fdb a) port

-- learning a station leaves where all others are
abbrev pub OthersStay : Type 0
OthersStay = (fdb : List Station) (a : List ℕ) (port : ℕ) (other : List ℕ) → bytes_eq other a ≡ false → lookup (learned fdb a port) other ≡ lookup fdb other

-- learning keeps the stations at the most or fewer
abbrev pub StationsAreFew : Type 0
StationsAreFew = (fdb : List Station) (a : List ℕ) (port : ℕ) → length fdb ≤ most_stations → length (learned fdb a port) ≤ most_stations

-- where each station is on a port of the switch, this holds after learning one on a port of the switch
abbrev pub PortsAreBelow : Type 0
PortsAreBelow = (ports : ℕ) (fdb : List Station) (a : List ℕ) (port : ℕ) → AreBelow ports fdb → port < ports → AreBelow ports (learned fdb a port)

-- where each station is on a port of the switch, a lookup gives a port of the switch, if any
abbrev pub FoundIsBelow : Type 0
FoundIsBelow = (ports : ℕ) (fdb : List Station) (a : List ℕ) → AreBelow ports fdb → IfSome (lookup fdb a) (λ port. port < ports)

-- a flooded frame joins the list of each other port once, as its last
abbrev pub FloodReachesOthers : Type 0
FloodReachesOthers =
    (frame : List ℕ) (lists : List (List (List ℕ))) (port other : ℕ) → other < length lists → (¬ (other ≡ port)) → list_of (flooded lists port frame) other ≡ list_of lists other ++ frame ∷ []

-- and the list of its own port stays as it is
abbrev pub FloodSparesItsPort : Type 0
FloodSparesItsPort = (frame : List ℕ) (lists : List (List (List ℕ))) (port : ℕ) → list_of (flooded lists port frame) port ≡ list_of lists port
