-- Tests in a row: the first that fails names the fault. A fault of a line has the number of its word.
use Rattle.std.specs.Prelude.{ℕ, Bool, true, false, Option, Some, None, Result, Ok, Err}
use Rattle.script_words.specs.declared.fault.Cause.{Cause}
use Rattle.script_words.specs.declared.fault.Cause.TheVariants.{UnknownWord}
use Rattle.script_words.specs.declared.fault.LineFault.{LineFault}

-- go on with what the first part gives, or stop at its fault
unfoldable pub and_then : {X Y E : Type 0} → Result X E → (X → Result Y E) → Result Y E
and_then (Ok x) next = next x
and_then (Err fault) next = Err fault

abbrev pub ◌>>=◌ : {X Y E : Type 0} → Result X E → (X → Result Y E) → Result Y E
◌>>=◌ result next = and_then result next

-- a fault where a test holds
abbrev pub fault_if : {E : Type 0} → Bool → E → Result Bool E
fault_if true fault = Err fault
fault_if false fault = Ok true

-- what there is, or a fault
abbrev pub found_or : {X E : Type 0} → Option X → E → Result X E
found_or (Some x) fault = Ok x
found_or None fault = Err fault

-- a fault at a word of the line, the first of which is word 1
abbrev pub fault_at : ℕ → Cause → LineFault
fault_at word cause = record { word = word; cause = cause; range = None }

-- a fault of the line as a whole
abbrev pub whole : Cause → LineFault
whole cause = fault_at 0 cause

-- the first word isn't known in this part of the script, or the number of words isn't one that it takes
abbrev pub unknown_line : LineFault
unknown_line = fault_at 1 UnknownWord

-- a fault at a word that should spell a number of a range
abbrev pub outside : ℕ → ℕ → ℕ → Cause → LineFault
outside word least most cause = record { word = word; cause = cause; range = Some (record { least = least; most = most }) }

-- what a word gives, or the fault at that word
abbrev pub at : {X : Type 0} → ℕ → Result X Cause → Result X LineFault
at word (Ok x) = Ok x
at word (Err cause) = Err (fault_at word cause)

-- what a word gives that should spell a number of a range, or the fault at that word
abbrev pub within : {X : Type 0} → ℕ → ℕ → ℕ → Result X Cause → Result X LineFault
within word least most (Ok x) = Ok x
within word least most (Err cause) = Err (outside word least most cause)
