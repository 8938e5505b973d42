-- How a text of reads is written: its first line is `reads 1`, and each further one is a step, a comment, or has no
-- words.
use Rattle.std.specs.Prelude.{ℕ, ◌+◌, ◌==◌, Bool, true, false, not, ◌&&◌, ◌||◌, Option, Some, None, Result, Ok, Err, List, [], ◌∷◌, codes, length, nat_lt, if◌then◌else◌}
use Rattle.std.specs.Str.{bytes_eq}
use Rattle.step_kinds.specs.Limits.{most_steps, most_write_bytes}
use Rattle.script_words.specs.Tests.{◌>>=◌, fault_if, found_or}
use Rattle.script_words.specs.Words.{lines_of, words_of, is_skipped, is_text, side_word, number_word, number_between, hex_word}
use Rattle.script_words.specs.declared.fault.Cause.{Cause}
use Rattle.script_words.specs.declared.fault.Cause.TheVariants.{NotText, BadHeader, UnknownWord, BadNumber, TooMany}
use Rattle.read_path.specs.Path.{memory_bytes, most_read_bytes}
use Rattle.read_path.specs.declared.steps.PathStep.{PathStep}
use Rattle.read_path.specs.declared.steps.PathStep.TheVariants.{Write, Read, Land, Show, Break, DropDone, Relink}

-- the bytes of the largest show
abbrev pub most_show_bytes : ℕ
most_show_bytes = 64

-- this many bytes from an address on don't lie in a side's memory
abbrev pub leaves_memory : ℕ → ℕ → Bool
leaves_memory at len = nat_lt memory_bytes (at + len)

abbrev pub reads_order_of : List ℕ → Option Bool
reads_order_of word = if bytes_eq word (codes "relaxed") then Some true else if bytes_eq word (codes "strict") then Some false else None

-- `write S AT HEX ORDER`
abbrev pub write_step : List ℕ → List ℕ → List ℕ → List ℕ → Result PathStep Cause
write_step side_text at_text hex_text order_text = do
  side ← side_word side_text
  at ← number_word at_text
  bytes ← hex_word hex_text
  relaxed ← found_or (reads_order_of order_text) UnknownWord
  _ ← fault_if (length bytes == 0 || (nat_lt most_write_bytes (length bytes) || leaves_memory at (length bytes))) BadNumber
  Ok (Write side at bytes relaxed)

-- `read S AT LEN`
abbrev pub read_step : List ℕ → List ℕ → List ℕ → Result PathStep Cause
read_step side_text at_text len_text = do
  side ← side_word side_text
  at ← number_word at_text
  len ← number_between 1 most_read_bytes len_text
  _ ← fault_if (leaves_memory at len) BadNumber
  Ok (Read side at len)

-- `land S K`
abbrev pub reads_land_step : List ℕ → List ℕ → Result PathStep Cause
reads_land_step side_text place_text = do
  side ← side_word side_text
  place ← number_word place_text
  Ok (Land side place)

-- `show S AT LEN`
abbrev pub show_step : List ℕ → List ℕ → List ℕ → Result PathStep Cause
show_step side_text at_text len_text = do
  side ← side_word side_text
  at ← number_word at_text
  len ← number_between 1 most_show_bytes len_text
  _ ← fault_if (leaves_memory at len) BadNumber
  Ok (Show side at len)

-- the steps of the link, each one word
abbrev pub link_step : List ℕ → Result PathStep Cause
link_step word =
    if bytes_eq word (codes "break") then Ok Break
    else if bytes_eq word (codes "drop") then Ok DropDone
    else if bytes_eq word (codes "relink") then Ok Relink
    else Err UnknownWord

abbrev pub range_step : List ℕ → List ℕ → List ℕ → List ℕ → Result PathStep Cause
range_step word side_text at_text len_text =
    if bytes_eq word (codes "read") then read_step side_text at_text len_text
    else if bytes_eq word (codes "show") then show_step side_text at_text len_text
    else Err UnknownWord

abbrev pub place_step : List ℕ → List ℕ → List ℕ → Result PathStep Cause
place_step word side_text place_text = if bytes_eq word (codes "land") then reads_land_step side_text place_text else Err UnknownWord

abbrev pub bytes_step : List ℕ → List ℕ → List ℕ → List ℕ → List ℕ → Result PathStep Cause
bytes_step word side_text at_text hex_text order_text =
    if bytes_eq word (codes "write") then write_step side_text at_text hex_text order_text else Err UnknownWord

-- the step of a line's words
abbrev pub step_of : List (List ℕ) → Result PathStep Cause
step_of (word ∷ []) = link_step word
step_of (word ∷ side ∷ place ∷ []) = place_step word side place
step_of (word ∷ side ∷ at ∷ len ∷ []) = range_step word side at len
step_of (word ∷ side ∷ at ∷ bytes ∷ order ∷ []) = bytes_step word side at bytes order
step_of words = Err UnknownWord

abbrev pub is_reads_header : List (List ℕ) → Bool
is_reads_header (word ∷ version ∷ []) = bytes_eq word (codes "reads") && bytes_eq version (codes "1")
is_reads_header words = false

-- the first line
abbrev pub reads_header_line : List ℕ → Result (Option PathStep) Cause
reads_header_line line = do
  _ ← fault_if (not (is_text line)) NotText
  _ ← fault_if (not (is_reads_header (words_of line))) BadHeader
  Ok None

-- what line n gives, if this many steps stand before it: the header and a line that says nothing give none
abbrev pub reads_line_gives : ℕ → ℕ → List ℕ → Result (Option PathStep) Cause
reads_line_gives n steps line =
    if n == 1 then reads_header_line line
    else if is_skipped line then Ok None
    else do
      _ ← fault_if (not (is_text line)) NotText
      step ← step_of (words_of line)
      _ ← fault_if (steps == most_steps) TooMany
      Ok (Some step)

-- a step and the number of its line
pub record LineStep : Type 0 where
  pub line : ℕ
  pub step : PathStep

-- a step of line n before those of the lines after it
abbrev pub before_more : ℕ → PathStep → Result (List LineStep) ℕ → Result (List LineStep) ℕ
before_more n step (Ok more) = Ok (record { line = n; step = step } ∷ more)
before_more n step (Err bad) = Err bad

-- what line n gives and the lines after it give, if it gives no step and where it gives one
abbrev pub go_on : ℕ → Result (Option PathStep) Cause → Result (List LineStep) ℕ → Result (List LineStep) ℕ → Result (List LineStep) ℕ
go_on n (Err cause) without with_one = Err n
go_on n (Ok None) without with_one = without
go_on n (Ok (Some step)) without with_one = before_more n step with_one

-- the steps of the lines from number n on, if this many steps stand before them, or the number of the first bad line
abbrev pub reads_lines : ℕ → ℕ → List (List ℕ) → Result (List LineStep) ℕ
reads_lines n steps [] = Ok []
reads_lines n steps (line ∷ lines) = go_on n (reads_line_gives n steps line) (reads_lines (n + 1) steps lines) (reads_lines (n + 1) (steps + 1) lines)

-- the steps of a text, or the number of its first bad line
abbrev pub reads_steps_of : List ℕ → Result (List LineStep) ℕ
reads_steps_of bytes = reads_lines 1 0 (lines_of bytes)
