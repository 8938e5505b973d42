-- Posted writes as a side makes them: what they are called, and where they go.
use Rattle.std.specs.Prelude.{ℕ, ◌<◌, ◌≤◌, List, length}
use Rattle.step_kinds.specs.Limits.{most_write_bytes}
use Rattle.step_kinds.specs.declared.steps.Label.{Label}
use Rattle.step_kinds.specs.declared.steps.Label.TheVariants.{Bell, Pad}
use Rattle.bridge_pair.specs.declared.write.Target.{Target}
use Rattle.bridge_pair.specs.declared.write.Target.TheVariants.{ThroughWindow, ToPad, ToBell}

pub record PostedWrite : Type 0 where
  pub label : Label
  pub target : Target

-- bytes through a window, from an offset on
abbrev pub memory_write : Label → ℕ → ℕ → List ℕ → PostedWrite
memory_write label window offset bytes = record { label = label; target = ThroughWindow window offset bytes }

-- a value for a scratchpad of the peer
abbrev pub pad_write : ℕ → ℕ → PostedWrite
pad_write index value = record { label = Pad index value; target = ToPad index value }

-- the doorbell of a queue, which rings the bit of the queue's number
abbrev pub bell_write : ℕ → PostedWrite
bell_write queue = record { label = Bell queue; target = ToBell queue }

-- a write to memory has 1 to 128 bytes; there are 16 scratchpads, and a doorbell has 32 bits
abbrev pub IsTarget : Target → Type 0
IsTarget (ThroughWindow window offset bytes) = (1 ≤ length bytes) × (length bytes ≤ most_write_bytes)
IsTarget (ToPad index value) = index < 16
IsTarget (ToBell bit) = bit < 32
