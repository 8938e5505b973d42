-- The exit status that each end of a run is.
use Rattle.std.specs.Prelude.{ℕ}
use Rattle.command_reply.specs.declared.status.Status.{Status}
use Rattle.command_reply.specs.declared.status.Status.TheVariants.{Done, Usage, Refused, SourceFailed, SinkFailed, OutOfMemory, TooLong, TooManyStates}

abbrev pub number_of : Status → ℕ
number_of Done = 0
number_of Usage = 2
number_of Refused = 3
number_of SourceFailed = 4
number_of SinkFailed = 5
number_of OutOfMemory = 6
number_of TooLong = 7
number_of TooManyStates = 8
