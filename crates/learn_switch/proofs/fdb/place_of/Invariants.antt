use Rattle.std.proofs.Common.{◌≡◌, drop}
use Rattle.std.specs.List.{position_from}
use Rattle.std.specs.Str.{bytes_eq}
use Rattle.learn_switch.proofs.fdb.place_of.Given as goal

abbrev pub invariant-loop-place : goal.invariant-loop-place
invariant-loop-place l =
    position_from (λ station. bytes_eq l.address station.address) 0 l.stations ≡ position_from (λ station. bytes_eq l.address station.address) l.place (drop l.place l.stations)
