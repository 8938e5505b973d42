-- What a lookup answers once a source was learned.
use Rattle.std.proofs.Common.{◌≡◌, ℕ, suc, ◌+◌, ◌<◌, ◌≤◌, nat_lt, Bool, true, false, cond, Option, Some, None, IfSome, List, [], ◌∷◌, ◌++◌, length, refl, ◌∙◌, sym, ap, subst, arith, slice_set}
use Rattle.std.specs.Option.{option_map}
use Rattle.std.specs.List.{position_from}
use Rattle.std.specs.Str.{bytes_eq}
use Rattle.std.proofs.lemmas.Bool.Decides.{Decides-ltb}
use Rattle.std.proofs.lemmas.Slice.Eq.{bytes_eq-Decides}
use Rattle.pair_model.specs.Fdb.{AreBelow, is_multicast, learned, learned_source, lookup, most_stations, once_learned, place_of, port_at, with_station}
use Rattle.pair_model.specs.declared.Station.{Station}

ahead : {K : Type 0} (t : K → Bool) (i : ℕ) (xs : List K) → position_from t (suc i) xs ≡ option_map (λ n. suc n) (position_from t i xs)
ahead t i [] = refl
ahead t i (x ∷ xs) =
    let e : suc i + 1 ≡ suc (i + 1) = omega arith in
    rw e (by (t x) (ahead t (i + 1) xs))
  where
    by : (b : Bool) → position_from t (suc (i + 1)) xs ≡ option_map (λ n. suc n) (position_from t (i + 1) xs)
        → cond b (Some (suc i)) (position_from t (suc (i + 1)) xs) ≡ option_map (λ n. suc n) (cond b (Some i) (position_from t (i + 1) xs))
    by true h = refl
    by false h = h

-- a lookup from station to station
abbrev pub found : List Station → List ℕ → Option ℕ
found [] a = None
found (s ∷ rest) a = cond (bytes_eq a s.address) (Some s.port) (found rest a)

port_at-ahead : (s : Station) (rest : List Station) (o : Option ℕ) → port_at (s ∷ rest) (option_map (λ n. suc n) o) ≡ port_at rest o
port_at-ahead s rest None = refl
port_at-ahead s rest (Some n) = refl

-- A lookup by a station's place in the database gives what a search from station to station gives.
pub lookup-found : (fdb : List Station) (a : List ℕ) → lookup fdb a ≡ found fdb a
lookup-found [] a = refl
lookup-found (s ∷ rest) a = by (bytes_eq a s.address) (lookup-found rest a)
  where
    by : (b : Bool) → lookup rest a ≡ found rest a
        → port_at (s ∷ rest) (cond b (Some 0) (position_from (λ station. bytes_eq a station.address) 1 rest)) ≡ cond b (Some s.port) (found rest a)
    by true h = refl
    by false h =
        ap (port_at (s ∷ rest)) (ahead (λ station. bytes_eq a station.address) 0 rest) ∙ (port_at-ahead s rest (place_of rest a) ∙ h)

-- a station gets its port, or is added where there is room
abbrev pub put : Bool → List Station → Station → List Station
put room [] st = cond room (st ∷ []) []
put room (s ∷ rest) st = cond (bytes_eq st.address s.address) (st ∷ rest) (s ∷ put room rest st)

abbrev with_room : Bool → List Station → Station → Option ℕ → List Station
with_room room fdb st (Some place) = slice_set fdb place st
with_room room fdb st None = cond room (fdb ++ st ∷ []) fdb

with_room-ahead : (room : Bool) (s st : Station) (rest : List Station) (o : Option ℕ) → with_room room (s ∷ rest) st (option_map (λ n. suc n) o) ≡ s ∷ with_room room rest st o
with_room-ahead true s st rest None = refl
with_room-ahead false s st rest None = refl
with_room-ahead room s st rest (Some n) = refl

with_room-put : (room : Bool) (fdb : List Station) (st : Station) → with_room room fdb st (place_of fdb st.address) ≡ put room fdb st
with_room-put true [] st = refl
with_room-put false [] st = refl
with_room-put room (s ∷ rest) st = by (bytes_eq st.address s.address) (with_room-put room rest st)
  where
    by : (b : Bool) → with_room room rest st (place_of rest st.address) ≡ put room rest st
        → with_room room (s ∷ rest) st (cond b (Some 0) (position_from (λ station. bytes_eq st.address station.address) 1 rest))
        ≡ cond b (st ∷ rest) (s ∷ put room rest st)
    by true h = refl
    by false h =
        ap (with_room room (s ∷ rest) st) (ahead (λ station. bytes_eq st.address station.address) 0 rest)
        ∙ (with_room-ahead room s st rest (place_of rest st.address) ∙ ap (λ all. s ∷ all) h)

with_station-room : (fdb : List Station) (st : Station) (o : Option ℕ) → with_station fdb st o ≡ with_room (nat_lt (length fdb) most_stations) fdb st o
with_station-room fdb st None = refl
with_station-room fdb st (Some place) = refl

learned-put : (fdb : List Station) (a : List ℕ) (port : ℕ) → learned fdb a port ≡ put (nat_lt (length fdb) most_stations) fdb (record { address = a; port = port })
learned-put fdb a port =
    let st : Station = record { address = a; port = port } in
    with_station-room fdb st (place_of fdb a) ∙ with_room-put (nat_lt (length fdb) most_stations) fdb st

itself : (a : List ℕ) → bytes_eq a a ≡ true
itself a = (bytes_eq-Decides a a).1 refl

-- the station itself
put-itself : (room : Bool) (fdb : List Station) (st : Station) → found (put room fdb st) st.address ≡ once_learned room (found fdb st.address) st.port
put-itself true [] st = ap (λ b. cond b (Some st.port) None) (itself st.address)
put-itself false [] st = refl
put-itself room (s ∷ rest) st = by room (bytes_eq st.address s.address) refl (put-itself room rest st)
  where
    known : (room' : Bool) → Some st.port ≡ once_learned room' (Some s.port) st.port
    known true = refl
    known false = refl

    by : (room' b : Bool) → bytes_eq st.address s.address ≡ b → found (put room' rest st) st.address ≡ once_learned room' (found rest st.address) st.port
        → found (cond b (st ∷ rest) (s ∷ put room' rest st)) st.address ≡ once_learned room' (cond b (Some s.port) (found rest st.address)) st.port
    by room' true e h = ap (λ b. cond b (Some st.port) (found rest st.address)) (itself st.address) ∙ known room'
    by room' false e h = ap (λ b. cond b (Some s.port) (found (put room' rest st) st.address)) e ∙ h

-- any other address
put-other : (room : Bool) (fdb : List Station) (st : Station) (other : List ℕ) → bytes_eq other st.address ≡ false → found (put room fdb st) other ≡ found fdb other
put-other true [] st other differs = ap (λ b. cond b (Some st.port) None) differs
put-other false [] st other differs = refl
put-other room (s ∷ rest) st other differs = by (bytes_eq st.address s.address) refl (put-other room rest st other differs)
  where
    by : (b : Bool) → bytes_eq st.address s.address ≡ b → found (put room rest st) other ≡ found rest other
        → found (cond b (st ∷ rest) (s ∷ put room rest st)) other ≡ cond (bytes_eq other s.address) (Some s.port) (found rest other)
    by true e h =
        let same : st.address ≡ s.address = (bytes_eq-Decides st.address s.address).0 e in
        let not_here : bytes_eq other s.address ≡ false = subst (λ a. bytes_eq other a ≡ false) same differs in
        ap (λ b. cond b (Some st.port) (found rest other)) differs ∙ sym (ap (λ b. cond b (Some s.port) (found rest other)) not_here)
    by false e h = ap (cond (bytes_eq other s.address) (Some s.port)) h

-- once the source of a frame was learned, it is on the frame's port, if it was known or there was room
pub lookup-learned : (fdb : List Station) (a : List ℕ) (port : ℕ) → lookup (learned fdb a port) a ≡ once_learned (nat_lt (length fdb) most_stations) (lookup fdb a) port
lookup-learned fdb a port =
    let room = nat_lt (length fdb) most_stations in
    let st : Station = record { address = a; port = port } in
    ap (λ all. lookup all a) (learned-put fdb a port)
    ∙ (lookup-found (put room fdb st) a ∙ (put-itself room fdb st ∙ ap (λ o. once_learned room o port) (sym (lookup-found fdb a))))

-- and all other stations are where they were
pub lookup-other : (fdb : List Station) (a : List ℕ) (port : ℕ) (other : List ℕ) → bytes_eq other a ≡ false → lookup (learned fdb a port) other ≡ lookup fdb other
lookup-other fdb a port other differs =
    let room = nat_lt (length fdb) most_stations in
    let st : Station = record { address = a; port = port } in
    ap (λ all. lookup all other) (learned-put fdb a port)
    ∙ (lookup-found (put room fdb st) other ∙ (put-other room fdb st other differs ∙ sym (lookup-found fdb other)))

-- a station is on one of the ports
found-below : (ports : ℕ) (fdb : List Station) (a : List ℕ) → AreBelow ports fdb → IfSome (found fdb a) (λ port. port < ports)
found-below ports [] a h = tt
found-below ports (s ∷ rest) a h = by (bytes_eq a s.address) (found-below ports rest a h.1)
  where
    by : (b : Bool) → IfSome (found rest a) (λ port. port < ports) → IfSome (cond b (Some s.port) (found rest a)) (λ port. port < ports)
    by true k = h.0
    by false k = k

-- A lookup gives a port of the switch or none, if all stations are on ports of the switch.
pub lookup-below : (ports : ℕ) (fdb : List Station) (a : List ℕ) → AreBelow ports fdb → IfSome (lookup fdb a) (λ port. port < ports)
lookup-below ports fdb a h = subst (λ o. IfSome o (λ port. port < ports)) (sym (lookup-found fdb a)) (found-below ports fdb a h)

put-below : (ports : ℕ) (room : Bool) (fdb : List Station) (st : Station) → AreBelow ports fdb → st.port < ports → AreBelow ports (put room fdb st)
put-below ports true [] st h k = (k, tt)
put-below ports false [] st h k = tt
put-below ports room (s ∷ rest) st h k = by (bytes_eq st.address s.address) (put-below ports room rest st h.1 k)
  where
    by : (b : Bool) → AreBelow ports (put room rest st) → AreBelow ports (cond b (st ∷ rest) (s ∷ put room rest st))
    by true e = (k, h.1)
    by false e = (h.0, e)

-- All stations are on ports of the switch after a station on one of them was learned, if they were so before.
pub learned-below : (ports : ℕ) (fdb : List Station) (a : List ℕ) (port : ℕ) → AreBelow ports fdb → port < ports → AreBelow ports (learned fdb a port)
learned-below ports fdb a port h k =
    subst (AreBelow ports) (sym (learned-put fdb a port)) (put-below ports (nat_lt (length fdb) most_stations) fdb (record { address = a; port = port }) h k)

-- the stations stay few
put-long : (fdb : List Station) (st : Station) → length (put true fdb st) ≤ length fdb + 1
put-long [] st = omega arith
put-long (s ∷ rest) st = by (bytes_eq st.address s.address) (put-long rest st)
  where
    by : (b : Bool) → length (put true rest st) ≤ length rest + 1 → length (cond b (st ∷ rest) (s ∷ put true rest st)) ≤ length (s ∷ rest) + 1
    by true h = omega arith
    by false h = omega (arith, h)

put-full : (fdb : List Station) (st : Station) → length (put false fdb st) ≤ length fdb
put-full [] st = omega arith
put-full (s ∷ rest) st = by (bytes_eq st.address s.address) (put-full rest st)
  where
    by : (b : Bool) → length (put false rest st) ≤ length rest → length (cond b (st ∷ rest) (s ∷ put false rest st)) ≤ length (s ∷ rest)
    by true h = omega arith
    by false h = omega (arith, h)

put-few : (room : Bool) (fdb : List Station) (st : Station) → nat_lt (length fdb) most_stations ≡ room → length fdb ≤ most_stations → length (put room fdb st) ≤ most_stations
put-few true fdb st e h = let below : length fdb < most_stations = (Decides-ltb (length fdb) most_stations).0 e in omega (arith, put-long fdb st, below)
put-few false fdb st e h = omega (arith, put-full fdb st, h)

-- At most 256 stations are known after one was learned, if there were at most 256 before.
pub learned-few : (fdb : List Station) (a : List ℕ) (port : ℕ) → length fdb ≤ most_stations → length (learned fdb a port) ≤ most_stations
learned-few fdb a port h =
    let room = nat_lt (length fdb) most_stations in
    let st : Station = record { address = a; port = port } in
    subst (λ all. length all ≤ most_stations) (sym (learned-put fdb a port)) (put-few room fdb st refl h)

-- what is looked up once a source was learned: where the source names a group, for another address, and for itself
pub lookup-multicast : (fdb : List Station) (src : List ℕ) (port : ℕ) (other : List ℕ) → is_multicast src ≡ true → lookup (learned_source fdb port src) other ≡ lookup fdb other
lookup-multicast fdb src port other e = ap (λ b. lookup (cond b fdb (learned fdb src port)) other) e

-- Learning a source that is no group's address leaves what a lookup of any other address gives.
pub lookup-another : (fdb : List Station) (src : List ℕ) (port : ℕ) (other : List ℕ) → is_multicast src ≡ false → bytes_eq other src ≡ false → lookup (learned_source fdb port src) other ≡ lookup fdb other
lookup-another fdb src port other e differs = ap (λ b. lookup (cond b fdb (learned fdb src port)) other) e ∙ lookup-other fdb src port other differs

-- A source that is no group's address is found on its port once learned, if it was known or there was room, else not.
pub lookup-source : (fdb : List Station) (src : List ℕ) (port : ℕ) (other : List ℕ) → is_multicast src ≡ false → bytes_eq other src ≡ true
    → lookup (learned_source fdb port src) other ≡ once_learned (nat_lt (length fdb) most_stations) (lookup fdb src) port
lookup-source fdb src port other e same =
    ap (λ b. lookup (cond b fdb (learned fdb src port)) other) e
    ∙ (ap (lookup (learned fdb src port)) ((bytes_eq-Decides other src).0 same) ∙ lookup-learned fdb src port)

-- A station that was known is found on the port that was learned last, whether there is room or not.
pub known-source : (room : Bool) (known : Option ℕ) (place port : ℕ) → known ≡ Some place → once_learned room known port ≡ Some port
known-source true known place port e = refl
known-source false known place port e = ap (λ o. once_learned false o port) e

-- All stations are on ports of the switch after a frame's source on one of them was learned, if they were before.
pub learned_source-below : (ports : ℕ) (fdb : List Station) (src : List ℕ) (port : ℕ) → AreBelow ports fdb → port < ports → AreBelow ports (learned_source fdb port src)
learned_source-below ports fdb src port h k = by (is_multicast src)
  where
    by : (b : Bool) → AreBelow ports (cond b fdb (learned fdb src port))
    by true = h
    by false = learned-below ports fdb src port h k

-- a lookup that gives a port gives one of the switch
pub found-port : (ports : ℕ) (fdb : List Station) (src : List ℕ) (port : ℕ) (other : List ℕ) (target : ℕ) → AreBelow ports fdb → port < ports
    → Some target ≡ lookup (learned_source fdb port src) other → target < ports
found-port ports fdb src port other target h k e =
    let P : Option ℕ → Type 0 = λ o. IfSome o (λ place. place < ports) in
    subst P (sym e) (lookup-below ports (learned_source fdb port src) other (learned_source-below ports fdb src port h k))
