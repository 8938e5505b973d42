-- The words of a command line, and the command that they are.
use Rattle.std.specs.Prelude.{ℕ, ◌^◌, ◌≤◌, ◌&&◌, Bool, true, false, Option, Some, None, List, [], ◌∷◌, codes, nat_le, nat_lt, if◌then◌else◌}
use Rattle.std.specs.List.{list_all}
use Rattle.std.specs.Str.{bytes_eq}
use Rattle.script_words.specs.Words.{is_digit, is_plain, value_from}
use Rattle.traffic_plan.specs.Load.{most_load_frames}
use Rattle.ntb_top.specs.declared.command.Command.{Command}
use Rattle.ntb_top.specs.declared.command.Command.TheVariants.{Plain, Threaded}
use Rattle.ntb_top.specs.declared.command.PlainCommand.{PlainCommand}
use Rattle.ntb_top.specs.declared.command.PlainCommand.TheVariants.{Replay, Load, Reads, Trace, Check, Explore}
use Rattle.ntb_top.specs.declared.command.ThreadedCommand.TheVariants.{Run, Stream}

-- the number below a limit that a word spells: decimal digits without a leading zero but for zero itself
abbrev pub number_below : ℕ → List ℕ → Option ℕ
number_below limit word = if list_all is_digit word && (is_plain word && nat_lt (value_from 0 word) limit) then Some (value_from 0 word) else None

-- a generated load has a seed below 2^64, and 1 to 30,000 frames
abbrev pub load_command : Option ℕ → Option ℕ → Option Command
load_command (Some seed) (Some frames) = if nat_lt 0 frames && nat_le frames most_load_frames then Some (Plain (Load seed frames)) else None
load_command seed frames = None

-- a command of one word
abbrev pub lone_command : List ℕ → Option Command
lone_command word =
    if bytes_eq word (codes "replay") then Some (Plain Replay)
    else if bytes_eq word (codes "run") then Some (Threaded Run)
    else if bytes_eq word (codes "stream") then Some (Threaded Stream)
    else if bytes_eq word (codes "reads") then Some (Plain Reads)
    else if bytes_eq word (codes "trace") then Some (Plain Trace)
    else if bytes_eq word (codes "check") then Some (Plain Check)
    else if bytes_eq word (codes "explore") then Some (Plain Explore)
    else None

-- `replay`, `trace`, `check`, `explore`, `run`, `stream`, `reads`, or `load SEED FRAMES`
abbrev pub command_of : List (List ℕ) → Option Command
command_of (word ∷ []) = lone_command word
command_of (word ∷ seed ∷ frames ∷ []) = if bytes_eq word (codes "load") then load_command (number_below (2 ^ 64) seed) (number_below (2 ^ 32) frames) else None
command_of words = None

-- the command, if it takes no thread
abbrev pub plain_part : Option Command → Option PlainCommand
plain_part (Some (Plain command)) = Some command
plain_part command = None

-- words that are no command, or one that takes no thread
abbrev pub IsPlain : Option Command → Type 0
IsPlain (Some (Threaded command)) = ⊥
IsPlain command = Unit {0}

-- the numbers of a command are in their ranges, if it has any
abbrev pub IsInRange : Command → Type 0
IsInRange (Plain (Load seed frames)) = (1 ≤ frames) × (frames ≤ most_load_frames)
IsInRange command = Unit {0}

-- whether a command reads its source
abbrev pub command_reads : Command → Bool
command_reads (Plain (Load seed frames)) = false
command_reads command = true

-- whether words are a command that reads
abbrev pub is_reading : Option Command → Bool
is_reading None = false
is_reading (Some command) = command_reads command

abbrev pub reads_script : List (List ℕ) → Bool
reads_script words = is_reading (command_of words)
