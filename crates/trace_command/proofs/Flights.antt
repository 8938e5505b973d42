-- Lists of writes in flight: landings where each write may land.
use Rattle.std.proofs.Common.{◌≡◌, ℕ, suc, ◌<◌, ◌≤◌, ◌⊎◌, inl, inr, Bool, true, false, List, [], ◌∷◌, if◌then◌else◌, length, get_or, take, map, refl, sym, arith}
use Rattle.std.proofs.lemmas.Bool.{cases_lt}
use Rattle.std.proofs.lemmas.List.{append-nil, drop_all, take_all}
use Rattle.std.proofs.lemmas.Option.{slice_get-get_or, slice_get-map}
use Rattle.std.specs.List.{list_all, remove}
use Rattle.order_rules.specs.Order.{Order, may_land, passes}
use Rattle.posted_queue.specs.Flight.{Flight}
use Rattle.posted_queue.specs.Landing.{flight_after_landing}
use Rattle.trace_command.specs.Writes.{no_write}
use Rattle.trace_command.specs.declared.writes.FlyingWrite.{FlyingWrite}

-- the order of a write that may pass all others
abbrev pub free : FlyingWrite → Order
free write = record { kind = 0; class = 0 }

passes_all : (write : FlyingWrite) (before : List Order) → list_all (passes (free write)) before ≡ true
passes_all write [] = refl
passes_all write (other ∷ before) = passes_all write before

lands_within : (flight : List FlyingWrite) (place : ℕ) (d : FlyingWrite) → place < length flight → may_land (map free flight) place ≡ true
lands_within flight place d within =
    rw (slice_get-map free flight place, slice_get-get_or flight place d within) (passes_all (get_or flight place d) (take place (map free flight)))

landed_where : (lands : Bool) (flight : Flight FlyingWrite) (rest : List FlyingWrite) → (lands ≡ true) ⊎ (rest ≡ flight.writes)
    → (if lands then (record { writes = rest; spare = flight.spare }) else flight).writes ≡ rest
landed_where true flight rest either = refl
landed_where false flight rest (inl wrong) = cc
landed_where false flight rest (inr same) = sym same

removed_past : (flight : List FlyingWrite) (place : ℕ) → length flight ≤ place → remove flight place ≡ flight
removed_past flight place past = rw (take_all place flight past, drop_all (suc place) flight (omega arith)) (append-nil flight)

-- each write lands, if there is one
pub each_lands : (flight : Flight FlyingWrite) (place : ℕ) → (flight_after_landing free flight place).writes ≡ remove flight.writes place
each_lands flight place =
    landed_where (may_land (map free flight.writes) place) flight (remove flight.writes place)
    (elim (cases_lt place (length flight.writes)) [
      | inl within ↦ inl (lands_within flight.writes place no_write within)
      | inr past ↦ inr (removed_past flight.writes place past)
    ])
