use Rattle.std.proofs.Common.{◌≡◌, ◌++◌, ◌+◌}
use Rattle.read_path.specs.InFlight.{parts_from}
use Rattle.read_path.proofs.flight.Flight.push_parts.Given as goal

abbrev pub invariant-loop-part : goal.invariant-loop-part
invariant-loop-part l = record {
  flying : l.self.flying ≡ l.fn.self.flying ++ parts_from l.number 0 l.part;
  spare : l.self.spare + l.part ≡ l.fn.self.spare;
}
