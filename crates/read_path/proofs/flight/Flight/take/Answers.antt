use Rattle.std.proofs.Common.{Option, Some, None, List, remove, map, ap, ◌∙◌}
use Rattle.std.specs.Option.{OnSome}
use Rattle.read_path.specs.InFlight.{PathFlying}
use Rattle.read_path.specs.Flights.{FlightState, path_flying_of}
use Rattle.read_path.specs.declared.flight.InFlight.{InFlight}
use Rattle.read_path.proofs.FlightLemmas.{map-remove}
use Rattle.read_path.proofs.flight.Flight.take.Goals as goal

on_some : {X : Type 0} (o : Option X) (P Q : Type 0) → OnSome o P → (P → Q) → OnSome o Q
on_some None P Q has more = has
on_some (Some x) P Q has more = more has

pub returns-clause-rest : goal.returns-clause-rest
returns-clause-rest c =
    on_some c.remove.result _ _ c.remove.ensures.items
    (λ items.
    ap (λ (l : List InFlight). record { flying = map path_flying_of l; spare = c.self.inside.spare }) items
    ∙ (ap (λ (l : List PathFlying). record { flying = l; spare = c.self.inside.spare }) (map-remove path_flying_of c.self.inside.items.items c.args.place)
    ∙ ap (λ (s : FlightState). record { flying = remove s.flying c.args.place; spare = s.spare }) c.self.view_is))
