-- Lines one after another.
use Rattle.std.proofs.Common.{◌≡◌, ℕ, ◌+◌, ◌<◌, ◌≤◌, ◌==◌, Option, Some, None, Result, Ok, Err, List, [], ◌∷◌, length, map, Bor, IfSome, refl, sym, ◌∙◌, ap, arith}
use Rattle.std.specs.List.{slice_split}
use Rattle.std.specs.Option.{option_map_or}
use Rattle.script_words.specs.Before.{Before, Given}
use Rattle.script_words.specs.Words.{lines_of, without_return}
use Rattle.script_words.specs.declared.fault.LineFault.{LineFault}
use Rattle.script_words.specs.declared.fault.ScriptFault.{ScriptFault}
use Rattle.script_text.specs.ParseClauses.{Parses, after_line}
use Rattle.script_text.specs.Script.{line_gives, read_lines}
use Rattle.script_text.specs.declared.error.ParseError.{ParseError}
use Rattle.script_text.specs.declared.error.ParseError.TheVariants.{Fault, OutOfMemory}

-- the lines after line n
abbrev pub then_lines : ℕ → List (List ℕ) → Result Before ScriptFault → Result Before ScriptFault
then_lines n lines (Ok before) = read_lines (n + 1) before lines
then_lines n lines (Err fault) = Err fault

-- Reading a list of lines reads the first one and, unless it has a fault, the others from the next number on.
pub next_line : (n : ℕ) (before : Before) (line : List ℕ) (lines : List (List ℕ)) → read_lines n before (line ∷ lines) ≡ then_lines n lines (after_line n before (line_gives n before line))
next_line n before line lines = by (line_gives n before line) refl
  where
    by : (r : Result Given LineFault) → line_gives n before line ≡ r → read_lines n before (line ∷ lines) ≡ then_lines n lines (after_line n before (line_gives n before line))
    by (Ok given) is = rw is refl
    by (Err cause) is = rw is refl

-- One line of a text

rest_lines : (rest : Option (Bor (List ℕ))) → map without_return (option_map_or (λ text. slice_split (λ b. b == 10) text.now) rest []) ≡ option_map_or (λ text. lines_of text.now) rest []
rest_lines None = refl
rest_lines (Some text) = refl

-- Reading a text reads its first line, less a carriage return, and then the lines after its line feed, if any.
pub line_turn : (n : ℕ) (before : Before) (text first line : List ℕ) (rest : Option (Bor (List ℕ))) → slice_split (λ b. b == 10) text ≡ first ∷ option_map_or (λ text. slice_split (λ b. b == 10) text.now) rest []
    → line ≡ without_return first
    → read_lines n before (lines_of text) ≡ then_lines n (option_map_or (λ text. lines_of text.now) rest []) (after_line n before (line_gives n before line))
line_turn n before text first line rest parts same =
    let behind : List (List ℕ) = option_map_or (λ text. slice_split (λ b. b == 10) text.now) rest [] in
    let split : lines_of text ≡ line ∷ option_map_or (λ text. lines_of text.now) rest [] =
    ap (map without_return) parts ∙ (ap (λ l. l ∷ map without_return behind) (sym same) ∙ ap (λ lines. line ∷ lines) (rest_lines rest)) in
    ap (read_lines n before) split ∙ next_line n before line (option_map_or (λ text. lines_of text.now) rest [])

-- A line's number plus the bytes left and one stays within its bound at the next line, as each rest is shorter.
pub count_turn : (rest : Option (Bor (List ℕ))) (text : List ℕ) (n total : ℕ) → IfSome rest (λ more. length more.now < length text) → n + (length text + 1) ≤ total
    → (n + 1) + option_map_or (λ more. length more.now + 1) rest 0 ≤ total
count_turn None text n total shorter few = omega arith
count_turn (Some more) text n total shorter few = omega arith

-- an error at a line is the script's
pub error_stays : (n : ℕ) (lines : List (List ℕ)) (error : ParseError) (due : Result Before ScriptFault) → Parses {X = Before} (Err error) due → Parses {X = Before} (Err error) (then_lines n lines due)
error_stays n lines (Fault fault) due h = ap (then_lines n lines) h
error_stays n lines OutOfMemory due h = tt
