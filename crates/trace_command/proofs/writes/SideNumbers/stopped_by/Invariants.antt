-- The last write of the class before the place is among those before the next one that is asked.
use Rattle.std.proofs.Common.{◌≡◌, take}
use Rattle.trace_command.specs.Writes.{last_of_class}
use Rattle.trace_command.proofs.writes.SideNumbers.stopped_by.Given as goal

abbrev pub invariant-loop-before : goal.invariant-loop-before
invariant-loop-before l = last_of_class l.class (take l.before l.self.flight) ≡ last_of_class l.class (take l.place l.self.flight)
