-- What the code owes of a text, and of a line of it.
use Rattle.std.specs.Prelude.{◌≡◌, ℕ, ◌+◌, List, ◌++◌, Option, Some, None, Result, Ok, Err, IfOk}
use Rattle.script_words.specs.declared.fault.Cause.{Cause}
use Rattle.reads_command.specs.Lines.{reads_steps_of}
use Rattle.read_path.specs.Path.{PathState}
use Rattle.read_path.specs.PathLog.{path_answer_to, path_after_step}
use Rattle.read_path.specs.Pushed.{Pushed}
use Rattle.reads_command.specs.Report.{made_line, log_of_lines}
use Rattle.read_path.specs.declared.steps.PathStep.{PathStep}
use Rattle.reads_command.specs.declared.reply.Reply.{Reply}
use Rattle.reads_command.specs.declared.reply.ReadsError.{ReadsError}
use Rattle.reads_command.specs.declared.reply.ReadsError.TheVariants.{BadLine, OutOfMemory}

-- exactly what is due, the number of the first bad line included; only out of memory is free
abbrev pub Replies : {X : Type 0} → Result X ReadsError → Result X ℕ → Type 0
Replies (Ok x) due = due ≡ Ok x
Replies (Err (BadLine line)) due = due ≡ Err line
Replies (Err OutOfMemory) due = Unit {0}

-- each read in the log of a text's steps has pushed what was posted before it
abbrev pub TextPushed : List ℕ → Type 0
TextPushed bytes = IfOk (reads_steps_of bytes) (λ steps. Pushed (log_of_lines steps))

-- this many steps, the path after them, and the lines of their answers
pub record ReplyState : Type 0 where
  pub steps : ℕ
  pub path : PathState
  pub text : List ℕ

abbrev pub reply_seen : Reply → ReplyState
reply_seen reply = record { steps = reply.steps; path = reply.path; text = reply.text.items }

-- the reply with what line n gives
abbrev pub reads_with_line : ℕ → ReplyState → Option PathStep → ReplyState
reads_with_line n reply None = reply
reads_with_line n reply (Some step) = record { steps = reply.steps + 1; path = path_after_step reply.path step; text = reply.text ++ made_line n (path_answer_to reply.path step) }

-- line n is added to the reply, or is a bad line; only out of memory is free
abbrev pub AddsReadsLine : ℕ → ReplyState → ReplyState → Result (Unit {0}) ReadsError → Result (Option PathStep) Cause → Type 0
AddsReadsLine n old new (Ok done) due = (given : Option PathStep) × (due ≡ Ok given) × (new ≡ reads_with_line n old given)
AddsReadsLine n old new (Err (BadLine line)) due = (cause : Cause) × (due ≡ Err cause) × (line ≡ n)
AddsReadsLine n old new (Err OutOfMemory) due = Unit {0}
