use Rattle.std.proofs.Common.{◌≡◌, true, take}
use Rattle.std.specs.List.{list_all}
use Rattle.order_rules.specs.Transactions.{may_overtake}
use Rattle.read_path.specs.InFlight.{path_kind_of}
use Rattle.read_path.proofs.flight.Flight.passes.Given as goal

abbrev pub invariant-loop-place : goal.invariant-loop-place
invariant-loop-place l = list_all (λ earlier. may_overtake l.kind (path_kind_of earlier)) (take l.place l.self.flying) ≡ true
