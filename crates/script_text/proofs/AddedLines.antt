-- A line that is added to the lines so far, or the error with which it isn't.
use Rattle.std.proofs.Common.{◌≡◌, ℕ, Result, Ok, Err, sym, ap, subst}
use Rattle.std.specs.Result.{IsErrAnd}
use Rattle.script_words.specs.Before.{Before, Given, with_given}
use Rattle.script_words.specs.Reads.{ReadsLine, result_map}
use Rattle.script_words.specs.declared.fault.LineError.{LineError}
use Rattle.script_words.specs.declared.fault.LineError.TheVariants.{Fault, OutOfMemory}
use Rattle.script_words.specs.declared.fault.LineFault.{LineFault}
use Rattle.script_text.specs.ParseClauses.{Adds}

-- what is due of one line is due of another that gives the same
pub adds_by : (n : ℕ) (old new : Before) (result : Result (Unit {0}) LineError) (due other : Result Given LineFault) → due ≡ other → Adds n old new result other → Adds n old new result due
adds_by n old new result due other same adds = subst (λ r. Adds n old new result r) (sym same) adds

-- a line for which there is no memory
pub adds_none : (n : ℕ) (old new : Before) (result : Result (Unit {0}) LineError) (due : Result Given LineFault) → IsErrAnd result (λ error. error ≡ OutOfMemory) → Adds n old new result due
adds_none n old new (Ok x) due is = absurd is
adds_none n old new (Err error) due is = rw is tt

-- a line whose error is handed on
pub adds_error : (n : ℕ) (old new : Before) (result : Result (Unit {0}) LineError) (error : LineError) (due other : Result Given LineFault) → IsErrAnd result (λ given. given ≡ error) → due ≡ other → ReadsLine {X = Given} (Err error) other → Adds n old new result due
adds_error n old new (Ok x) error due other is same reads = absurd is
adds_error n old new (Err given) error due other is same reads = rw (is, same) (by error reads)
  where
    by : (error : LineError) → ReadsLine {X = Given} (Err error) other → Adds n old new (Err error) other
    by (Fault fault) reads = ap (result_map (with_given n old)) reads
    by OutOfMemory reads = tt
