-- What a script means: the plan that it declares, or the first line with a fault, and that line's first fault.
use Rattle.std.specs.Prelude.{ℕ, ◌+◌, ◌==◌, Bool, false, not, ◌&&◌, Result, Ok, Err, List, [], ◌∷◌, codes, if◌then◌else◌}
use Rattle.std.specs.Str.{bytes_eq}
use Rattle.step_kinds.specs.declared.plan.Plan.{Plan}
use Rattle.script_words.specs.declared.parts.Part.{Part}
use Rattle.script_words.specs.declared.parts.Part.TheVariants.{Declarations, Steps, Traffic}
use Rattle.script_words.specs.Before.{Before, nothing_before, Given, Nothing, with_given}
use Rattle.script_words.specs.Declarations.{declaration_line}
use Rattle.script_words.specs.StepLines.{step_line}
use Rattle.script_words.specs.TrafficLines.{traffic_line}
use Rattle.script_words.specs.Tests.{◌>>=◌, fault_if, whole}
use Rattle.script_words.specs.Words.{lines_of, words_of, is_skipped, is_text}
use Rattle.script_words.specs.declared.fault.Cause.TheVariants.{NotText, BadHeader}
use Rattle.script_words.specs.declared.fault.LineFault.{LineFault}
use Rattle.script_words.specs.declared.fault.ScriptFault.{ScriptFault}

abbrev pub is_header : List (List ℕ) → Bool
is_header (word ∷ version ∷ []) = bytes_eq word (codes "ntb") && bytes_eq version (codes "1")
is_header words = false

-- the first line
abbrev pub header_line : List ℕ → Result Given LineFault
header_line line = do
  _ ← fault_if (not (is_text line)) (whole NotText)
  _ ← fault_if (not (is_header (words_of line))) (whole BadHeader)
  Ok Nothing

-- the words of a line, in that part of the script
abbrev pub words_line : Before → Part → List (List ℕ) → Result Given LineFault
words_line before part [] = Ok Nothing
words_line before Declarations (word ∷ words) = declaration_line before word words
words_line before Steps (word ∷ words) = step_line before word words
words_line before Traffic (word ∷ words) = traffic_line before word words

-- What line n gives after what the lines before it gave, or its first fault. From line 2 on a line without words and a
-- comment are skipped, whatever their bytes are.
abbrev pub line_gives : ℕ → Before → List ℕ → Result Given LineFault
line_gives n before line =
    if n == 1 then header_line line
    else if is_skipped line then Ok Nothing
    else do
      _ ← fault_if (not (is_text line)) (whole NotText)
      words_line before before.part (words_of line)

-- what the lines from number n on give
abbrev pub read_lines : ℕ → Before → List (List ℕ) → Result Before ScriptFault
read_lines n before [] = Ok before
read_lines n before (line ∷ lines) = go_on (line_gives n before line) (λ given. read_lines (n + 1) (with_given n before given) lines) where
  go_on : Result Given LineFault → (Given → Result Before ScriptFault) → Result Before ScriptFault
  go_on (Err fault) next = Err (record { line = n; fault = fault })
  go_on (Ok given) next = next given

abbrev pub plan_of : Result Before ScriptFault → Result Plan ScriptFault
plan_of (Ok before) = Ok before.plan
plan_of (Err fault) = Err fault

-- what all lines of a script declare, or its first fault
abbrev pub declared_by : List ℕ → Result Before ScriptFault
declared_by bytes = read_lines 1 nothing_before (lines_of bytes)

-- the plan of a script, or its first fault
abbrev pub script_of : List ℕ → Result Plan ScriptFault
script_of bytes = plan_of (declared_by bytes)
