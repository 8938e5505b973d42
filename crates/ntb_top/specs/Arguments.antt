-- The words that a process's arguments are.
use Rattle.std.specs.Prelude.{◌≡◌, ℕ, Result, Ok, Err, List, [], String, drop, map}
use Rattle.std.specs.Global.{Global}
use Rattle.std.specs.IoError.{error_kind}
use Rattle.std.specs.String.{string_bytes}
use Rattle.std.specs.Vec.Iter.{into_iter_items}
use Rattle.std.specs.declared.io.Error.{Error}
use Rattle.std.specs.declared.io.ErrorKind.TheVariants.{OutOfMemory}
use Rattle.std.specs.declared.vec.IntoIter.{IntoIter}

-- all arguments but the first, which is the program's name; arguments that aren't all text are no words
abbrev pub shell_words_of : Result (IntoIter (String Global) Global) Error → List (List ℕ)
shell_words_of (Ok arguments) = map string_bytes (drop 1 (into_iter_items arguments))
shell_words_of (Err error) = []

-- there was no memory for the arguments
abbrev pub AreWanting : Result (IntoIter (String Global) Global) Error → Type 0
AreWanting (Ok arguments) = ⊥
AreWanting (Err error) = error_kind error ≡ OutOfMemory
