-- Which steps a path takes.
use Rattle.std.specs.Prelude.{ℕ, ◌+◌, ◌≤◌, Option, Some, None, length}
use Rattle.step_kinds.specs.Limits.{most_write_bytes}
use Rattle.reads_command.specs.Lines.{most_show_bytes}
use Rattle.read_path.specs.Path.{memory_bytes, most_read_bytes}
use Rattle.read_path.specs.declared.steps.PathStep.{PathStep}
use Rattle.read_path.specs.declared.steps.PathStep.TheVariants.{Write, Read, Land, Show, Break, DropDone, Relink}

-- a byte at least and this many at most, and all in a side's memory
pub record IsRange (most at len : ℕ) : Type 0 where
  pub some : 1 ≤ len
  pub few : len ≤ most
  pub within : at + len ≤ memory_bytes

-- its bytes are as many as a step may have, and lie in a side's memory
abbrev pub Fits : PathStep → Type 0
Fits (Write side at bytes relaxed) = IsRange most_write_bytes at (length bytes)
Fits (Read side at len) = IsRange most_read_bytes at len
Fits (Land side place) = Unit {0}
Fits (Show side at len) = IsRange most_show_bytes at len
Fits Break = Unit {0}
Fits DropDone = Unit {0}
Fits Relink = Unit {0}

abbrev pub FitsIfThere : Option PathStep → Type 0
FitsIfThere None = Unit {0}
FitsIfThere (Some step) = Fits step
