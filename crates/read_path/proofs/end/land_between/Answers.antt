use Rattle.std.proofs.Common.{◌≡◌, ◌+◌, remove, sym, subst, arith}
use Rattle.read_path.specs.Ends.{AreEnds, all_due, completions_due, reached, with_flight_state}
use Rattle.read_path.specs.Flights.{FlightState, path_flying_of}
use Rattle.read_path.specs.declared.end.End.{End}
use Rattle.read_path.proofs.EndLemmas.{due_there, lands_kept}
use Rattle.read_path.proofs.end.land_between.Goals as goal

pub arrive-requires-clause-spare : goal.arrive-requires-clause-spare
arrive-requires-clause-spare c =
    let flight = c.args.from.now.flight.flying in
    let what = path_flying_of c.in-Some.item in
    let due : all_due (remove flight c.args.place) + completions_due what ≡ all_due flight = due_there flight c.args.place what (sym c.in-Some.ensures.item) in
    let room = c.requires.peer_room in
    omega (arith, due, room)

pub returns-in-Some-clause-whole : goal.returns-in-Some-clause-whole
returns-in-Some-clause-whole c =
    subst (λ (to : End). AreEnds (record { memory = c.args.from.now.memory; flight = c.take.new.self; reads = c.args.from.now.reads }) to) (sym c.arrive.ensures.to)
    (subst (λ (flight : FlightState). AreEnds (with_flight_state c.args.from.now flight) (reached c.args.up c.args.to.now (path_flying_of c.in-Some.item))) (sym c.in-Some.ensures.rest)
    (lands_kept c.args.up c.args.from.now c.args.to.now c.args.place (path_flying_of c.in-Some.item) (sym c.in-Some.ensures.item) c.requires))
