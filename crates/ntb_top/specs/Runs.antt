-- What a run of the program comes to: what it took from its source, what it wrote to its sink, and its exit status.
use Rattle.std.specs.Prelude.{◌≡◌, ◌⊎◌, ℕ, ◌+◌, ◌≤◌, Bool, true, false, Option, Some, None, List, [], length}
use Rattle.io_edges.specs.Causes.{Rose}
use Rattle.io_edges.specs.Whole.{HasGiven, HoldsAll, HoldsPartAtWrites}
use Rattle.step_kinds.specs.Limits.{most_script_bytes}
use Rattle.command_reply.specs.Output.{Output}
use Rattle.command_reply.specs.Statuses.{number_of}
use Rattle.command_reply.specs.declared.status.Status.TheVariants.{Done, OutOfMemory, SinkFailed, SourceFailed}
use Rattle.ntb_top.specs.Answers.{IsAnswerTo}
use Rattle.ntb_top.specs.Commands.{command_of, reads_script}

-- The source and the sink at one moment: what is left and what is held, if they tell it. Also how often each has
-- failed, and how often it was read from or written to, if it counts that.
pub record Outside : Type 0 where
  pub left : Option (List ℕ)
  pub read_faults : ℕ
  pub reads : ℕ
  pub held : Option (List ℕ)
  pub write_faults : ℕ
  pub writes : ℕ

-- nothing was written, and no write was made
pub record IsSilent (before after : Outside) : Type 0 where
  pub held : after.held ≡ before.held
  pub faults : after.write_faults ≡ before.write_faults
  pub writes : after.writes ≡ before.writes

-- The four ends of a run

-- an answer: its status, and its text written whole, if each write took a byte of it
pub record EndsWhole (IsAnswer : Output → Type 0) (before after : Outside) (status : ℕ) : Type 0 where
  pub output : Output
  pub answers : IsAnswer output
  pub status_is : status ≡ output.status
  pub text : HoldsAll before.held after.held output.text
  pub once : after.writes ≤ before.writes + length output.text

-- a failed read, of a command that reads
pub record EndsUnread (reading : Bool) (before after : Outside) (status : ℕ) : Type 0 where
  pub status_is : status ≡ number_of SourceFailed
  pub reads : reading ≡ true
  pub cause : Rose before.read_faults after.read_faults
  pub silent : IsSilent before after

-- A failed write: a part from the front of an answer's text, and not all of it, was written. Each write but the last
-- one took a byte of it.
pub record EndsCut (IsAnswer : Output → Type 0) (before after : Outside) (status : ℕ) : Type 0 where
  pub output : Output
  pub answers : IsAnswer output
  pub status_is : status ≡ number_of SinkFailed
  pub cause : Rose before.write_faults after.write_faults
  pub text : HoldsPartAtWrites before.held after.held output.text before.writes after.writes

-- out of memory
pub record EndsWanting (before after : Outside) (status : ℕ) : Type 0 where
  pub status_is : status ≡ number_of OutOfMemory
  pub silent : IsSilent before after

abbrev pub Ends : Bool → (Output → Type 0) → Outside → Outside → ℕ → Type 0
Ends reading IsAnswer before after status =
    EndsWhole IsAnswer before after status ⊎ (EndsUnread reading before after status ⊎ (EndsCut IsAnswer before after status ⊎ EndsWanting before after status))

-- a source that tells its bytes has none left
abbrev pub IsAtEnd : Option (List ℕ) → Type 0
IsAtEnd None = Unit {0}
IsAtEnd (Some left) = left ≡ []

-- the run neither failed to read nor ran out of memory
abbrev pub HasReply : ℕ → Type 0
HasReply status = (status ≡ number_of SourceFailed → ⊥) × (status ≡ number_of OutOfMemory → ⊥)

-- The whole contract of a run, with the bytes that were read, if `IsAnswer` says which outputs answer them.
pub record HasAnswered (reading : Bool) (IsAnswer : List ℕ → Output → Type 0) (before after : Outside) (status : ℕ) : Type 0 where
  pub bytes : List ℕ
  -- they are what was taken from the source, never more than one byte past the limit
  pub taken : HasGiven before.left after.left bytes
  pub few : length bytes ≤ most_script_bytes + 1
  -- each read but the last one gave a byte of them
  pub reads : after.reads ≤ before.reads + length bytes + 1
  -- a command that doesn't read takes nothing, and no read is made
  pub unread : reading ≡ false → (bytes ≡ []) × (after.reads ≡ before.reads) × (after.read_faults ≡ before.read_faults)
  -- one that does reads the source to its end, unless it is too long
  pub whole : reading ≡ true → HasReply status → length bytes ≤ most_script_bytes → IsAtEnd after.left
  -- it ends with an answer to these bytes, or fails outside, or is out of memory
  pub ends : Ends reading (IsAnswer bytes) before after status
  -- no fault is swallowed: the source's count rose only with status 4, and the sink's only with 5
  pub source_kept : (status ≡ number_of SourceFailed → ⊥) → after.read_faults ≡ before.read_faults
  pub sink_kept : (status ≡ number_of SinkFailed → ⊥) → after.write_faults ≡ before.write_faults
  -- with status 0 an answer of that status was written whole, and what is true of such an answer is true. For `replay`
  -- and `load` the log of the plan that was replayed is in order, and refuses where it should (`IsTrueLog`)
  pub headline : status ≡ number_of Done → EndsWhole (IsAnswer bytes) before after status

-- the run of these words
abbrev pub HasRun : List (List ℕ) → Outside → Outside → ℕ → Type 0
HasRun words before after status = HasAnswered (reads_script words) (IsAnswerTo (command_of words)) before after status
