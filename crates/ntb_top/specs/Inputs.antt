-- What reading, replying and writing come to, for any command.
use Rattle.std.specs.Prelude.{◌≡◌, ◌⊎◌, ℕ, ◌+◌, ◌<◌, ◌≤◌, Bool, true, false, Option, Result, Err, IfOk, OnOk, List, [], length}
use Rattle.step_kinds.specs.Limits.{most_script_bytes}
use Rattle.command_reply.specs.Output.{Output}
use Rattle.command_reply.specs.Statuses.{number_of}
use Rattle.command_reply.specs.declared.status.Status.TheVariants.{SinkFailed}
use Rattle.io_edges.specs.Causes.{Rose}
use Rattle.io_edges.specs.Whole.{HasGiven, HoldsAll, HoldsPartAtWrites}
use Rattle.ntb_top.specs.Runs.{IsAtEnd}
use Rattle.ntb_top.specs.declared.input.Input.{Input}
use Rattle.ntb_top.specs.declared.input.Input.TheVariants.{TooLong, Whole}
use Rattle.ntb_top.specs.declared.input.Stop.{Stop}
use Rattle.ntb_top.specs.declared.input.Stop.TheVariants.{SourceFailed}

-- the source at one moment: what is left, if it tells it, how often it has failed, and how often it was read from
pub record ShellGiven : Type 0 where
  pub left : Option (List ℕ)
  pub faults : ℕ
  pub reads : ℕ

-- These bytes were read before a result came, by a command that reads or by one that doesn't.
pub record HasRead {T : Type 0} (reading : Bool) (before after : ShellGiven) (bytes : List ℕ) (result : Result T Stop) : Type 0 where
  pub taken : HasGiven before.left after.left bytes
  pub few : length bytes ≤ most_script_bytes + 1
  -- each read but the last one gave a byte of them, and a command that doesn't read makes none
  pub reads : after.reads ≤ before.reads + length bytes + 1
  pub unread : reading ≡ false → (bytes ≡ []) × (after.reads ≡ before.reads)
  -- all that the source has is read, unless that is too long
  pub whole : reading ≡ true → OnOk result (length bytes ≤ most_script_bytes → IsAtEnd after.left)
  -- a failed read comes only of a command that reads, if the source failed, and else it didn't fail
  pub failed : result ≡ Err SourceFailed → (reading ≡ true) × Rose before.faults after.faults
  pub kept : (result ≡ Err SourceFailed → ⊥) → after.faults ≡ before.faults

-- the input is these bytes, or they are too many
abbrev pub IsInput : List ℕ → Input → Type 0
IsInput bytes (Whole read) = (read.items ≡ bytes) × (length bytes ≤ most_script_bytes)
IsInput bytes TooLong = most_script_bytes < length bytes

-- The input of a command, with the bytes that were read.
pub record HasInput (reading : Bool) (before after : ShellGiven) (result : Result Input Stop) : Type 0 where
  pub bytes : List ℕ
  pub read : HasRead reading before after bytes result
  pub input : IfOk result (IsInput bytes)

-- The reply of a command, with the bytes that were read.
pub record HasReplied {T : Type 0} (reading : Bool) (IsAnswer : List ℕ → T → Type 0) (before after : ShellGiven) (result : Result T Stop) : Type 0 where
  pub bytes : List ℕ
  pub read : HasRead reading before after bytes result
  pub answers : IfOk result (IsAnswer bytes)

-- the sink at one moment: what it holds, if it tells it, how often it has failed, and how often it was written to
pub record ShellHeld : Type 0 where
  pub held : Option (List ℕ)
  pub faults : ℕ
  pub writes : ℕ

-- the text was written whole, if each write took a byte of it, and the status is the output's
pub record IsWritten (before after : ShellHeld) (output : Output) (status : ℕ) : Type 0 where
  pub status_is : status ≡ output.status
  pub text : HoldsAll before.held after.held output.text
  pub once : after.writes ≤ before.writes + length output.text
  pub kept : after.faults ≡ before.faults

-- the sink failed, and a part from the front of the text was written, if each write but the last one took a byte
pub record IsCut (before after : ShellHeld) (output : Output) (status : ℕ) : Type 0 where
  pub status_is : status ≡ number_of SinkFailed
  pub text : HoldsPartAtWrites before.held after.held output.text before.writes after.writes
  pub cause : Rose before.faults after.faults

abbrev pub HasWritten : ShellHeld → ShellHeld → Output → ℕ → Type 0
HasWritten before after output status = IsWritten before after output status ⊎ IsCut before after output status
