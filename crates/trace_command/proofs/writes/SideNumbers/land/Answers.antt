use Rattle.std.proofs.Common.{ap, ◌∙◌}
use Rattle.trace_command.proofs.Flights.{each_lands}
use Rattle.trace_command.specs.Writes.{SideWrites, trace_with_landed}
use Rattle.trace_command.proofs.writes.SideNumbers.land.Goals as goal

pub returns : goal.returns
returns c =
    let lands = ap (λ flight. flight.writes) c.land.ensures.after ∙ each_lands c.self.inside.flight c.args.place in
    ap (λ writes. (let side : SideWrites = record { posted = c.self.inside.posted; flight = writes } in side)) lands ∙ ap (λ now. trace_with_landed now c.args.place) c.self.view_is
