-- What a command answers: an exit status and a text.
use Rattle.std.specs.Prelude.{ℕ, List, ◌∷◌, ◌++◌, codes}
use Rattle.std.specs.Fmt.{decimal}
use Rattle.report_text.specs.Report.{line_of}
use Rattle.script_words.specs.Causes.{cause_text}
use Rattle.script_words.specs.declared.fault.ScriptFault.{ScriptFault}
use Rattle.command_reply.specs.Statuses.{number_of}
use Rattle.command_reply.specs.declared.status.Status.{Status}
use Rattle.command_reply.specs.declared.status.Status.TheVariants.{Done, Refused, TooLong, TooManyStates, Usage}

pub record Output : Type 0 where
  pub status : ℕ
  pub text : List ℕ

-- a command that is done
abbrev pub reply_done : List ℕ → Output
reply_done text = record { status = number_of Done; text = text }

-- one line
abbrev pub one_line : Status → List ℕ → Output
one_line status text = record { status = number_of status; text = line_of text }

-- words that are no command
abbrev pub usage : Output
usage = one_line Usage (codes "usage")

-- an input of too many bytes
abbrev pub too_long : Output
too_long = one_line TooLong (codes "too long")

-- an exploration that would reach more states than it may
abbrev pub too_many_states : Output
too_many_states = one_line TooManyStates (codes "too many states")

-- an input that is refused at a line, by a cause
abbrev pub refused_at : ℕ → List ℕ → Output
refused_at line cause = one_line Refused (codes "refused line " ++ decimal line ++ 32 ∷ cause)

-- a script with a fault: its first line that has one, and that line's first fault
abbrev pub refused : ScriptFault → Output
refused fault = refused_at fault.line (cause_text fault.fault.cause)
