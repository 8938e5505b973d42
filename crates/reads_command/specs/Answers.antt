-- What `reads` answers to the bytes of a text, and what is true of it.
use Rattle.std.specs.Prelude.{◌≡◌, ℕ, Result, Ok, Err, List, codes}
use Rattle.command_reply.specs.Output.{Output, reply_done, refused_at}
use Rattle.command_reply.specs.Statuses.{number_of}
use Rattle.command_reply.specs.declared.status.Status.TheVariants.{Done}
use Rattle.reads_command.specs.Lines.{LineStep, reads_steps_of}
use Rattle.read_path.specs.Pushed.{Pushed}
use Rattle.reads_command.specs.Report.{log_of_lines, reply_to, reads_report_of}

-- the lines of the answers, or the first bad line
abbrev pub output_of : Result (List ℕ) ℕ → Output
output_of (Ok text) = reply_done text
output_of (Err line) = refused_at line (codes "badline")

-- The bytes are the lines of steps, and the text has the lines of their answers. Each read in the log of these steps
-- has pushed the writes that were posted before it.
pub record IsTrueReply (bytes text : List ℕ) : Type 0 where
  pub steps : List LineStep
  pub read : reads_steps_of bytes ≡ Ok steps
  pub answers : text ≡ reads_report_of steps
  pub pushed : Pushed (log_of_lines steps)

-- The answer of `reads` to the bytes of a text.
pub record IsReadsOf (bytes : List ℕ) (output : Output) : Type 0 where
  pub answer : output ≡ output_of (reply_to bytes)
  pub headline : output.status ≡ number_of Done → IsTrueReply bytes output.text
