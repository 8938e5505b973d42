use Rattle.std.proofs.Common.{List, [], ◌∷◌, ◌++◌, sym, ap, ◌∙◌, append_assoc, arith}
use Rattle.read_path.specs.InFlight.{PathFlying, Part, parts_from}
use Rattle.read_path.specs.Flights.{FlightState}
use Rattle.read_path.proofs.FlightLemmas.{parts_more}
use Rattle.read_path.proofs.flight.Flight.push_parts.Goals as goal

pub loop-part-preserved : goal.loop-part-preserved
loop-part-preserved c =
    let spare = ap (λ (s : FlightState). s.spare) c.push.ensures in
    record {
      flying =
          ap (λ (s : FlightState). s.flying) c.push.ensures
          ∙ (ap (λ (l : List PathFlying). l ++ Part c.args.number c.loop-part.part ∷ []) c.loop-part.invariant.flying
          ∙ (append_assoc c.args.self.now.flying (parts_from c.args.number 0 c.loop-part.part) (Part c.args.number c.loop-part.part ∷ [])
          ∙ ap (λ (l : List PathFlying). c.args.self.now.flying ++ l) (sym (parts_more c.args.number c.loop-part.part))));
      spare = omega (arith, spare, c.loop-part.invariant.spare, c.loop-part-test.true, c.requires.spare);
    }
