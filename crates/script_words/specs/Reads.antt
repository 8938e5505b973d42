-- What the code owes of a definition's value: that value, if memory was there.
use Rattle.std.specs.Prelude.{◌≡◌, Result, Ok, Err}
use Rattle.script_words.specs.declared.fault.Cause.{Cause}
use Rattle.script_words.specs.declared.fault.LineFault.{LineFault}
use Rattle.script_words.specs.declared.fault.ReadError.{ReadError}
use Rattle.script_words.specs.declared.fault.ReadError.TheVariants.{Fault, OutOfMemory}
use Rattle.script_words.specs.declared.fault.LineError.{LineError}
use Rattle.script_words.specs.declared.fault.LineError.TheVariants.{Fault as LineHas, OutOfMemory as NoRoom}

-- a reader gives what is due; only out of memory is free
abbrev pub WordReads : {X : Type 0} → Result X ReadError → Result X Cause → Type 0
WordReads (Ok x) due = due ≡ Ok x
WordReads (Err (Fault cause)) due = due ≡ Err cause
WordReads (Err OutOfMemory) due = Unit {0}

-- and so does a line's reader, whose fault has its word
abbrev pub ReadsLine : {X : Type 0} → Result X LineError → Result X LineFault → Type 0
ReadsLine (Ok x) due = due ≡ Ok x
ReadsLine (Err (LineHas fault)) due = due ≡ Err fault
ReadsLine (Err NoRoom) due = Unit {0}

-- a result with its value seen otherwise
abbrev pub result_map : {X Y E : Type 0} → (X → Y) → Result X E → Result Y E
result_map seen (Ok x) = Ok (seen x)
result_map seen (Err error) = Err error
