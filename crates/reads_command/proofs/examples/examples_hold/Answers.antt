use Rattle.std.proofs.Common.{refl}
use Rattle.std.specs.Fmt.{digits}
use Rattle.script_words.specs.Tests.{and_then}
use Rattle.reads_command.proofs.examples.examples_hold.Goals as goal

pub returns : goal.returns
unfolding and_then digits
returns c = record { reply = refl; bad_line = refl }
