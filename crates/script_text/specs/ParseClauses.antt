-- What the code owes of a script's value, and a line's value as the lines after it take it.
use Rattle.std.specs.Prelude.{◌≡◌, ℕ, Result, Ok, Err}
use Rattle.script_words.specs.Before.{Before, Given, with_given}
use Rattle.script_words.specs.Reads.{ReadsLine, result_map}
use Rattle.script_words.specs.declared.fault.LineError.{LineError}
use Rattle.script_words.specs.declared.fault.LineFault.{LineFault}
use Rattle.script_words.specs.declared.fault.ScriptFault.{ScriptFault}
use Rattle.script_text.specs.declared.error.ParseError.{ParseError}
use Rattle.script_text.specs.declared.error.ParseError.TheVariants.{Fault, OutOfMemory}

-- exactly what is due, its fault included; only out of memory is free
abbrev pub Parses : {X : Type 0} → Result X ParseError → Result X ScriptFault → Type 0
Parses (Ok x) due = due ≡ Ok x
Parses (Err (Fault fault)) due = due ≡ Err fault
Parses (Err OutOfMemory) due = Unit {0}

-- the lines so far with line n, if it gives something
abbrev pub after_line : ℕ → Before → Result Given LineFault → Result Before ScriptFault
after_line n before (Ok given) = Ok (with_given n before given)
after_line n before (Err fault) = Err (record { line = n; fault = fault })

-- line n added to the lines so far: they are as the lines after it take them, or the line has its fault; only out of
-- memory is free
abbrev pub Adds : ℕ → Before → Before → Result (Unit {0}) LineError → Result Given LineFault → Type 0
Adds n old new result due = ReadsLine (result_map (λ _. new) result) (result_map (with_given n old) due)
