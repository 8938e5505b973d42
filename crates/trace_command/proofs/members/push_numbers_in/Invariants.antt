-- The numbers of the writes before the place are in the text.
use Rattle.std.proofs.Common.{◌≡◌, ◌++◌, take}
use Rattle.trace_command.specs.Words.{separated}
use Rattle.trace_command.specs.Writes.{numbers_in}
use Rattle.trace_command.proofs.members.push_numbers_in.Given as goal

abbrev pub invariant-loop-place : goal.invariant-loop-place
invariant-loop-place l = l.text.items ≡ l.initial.text.items ++ separated (numbers_in (take l.place l.side.flight))
