-- The bytes gathered of a frame, as the crate keeps them.
use Rattle.std.specs.Prelude.{ℕ, ◌-◌, ◌≤◌, List, [], length, take}
use Rattle.step_kinds.specs.Limits.{most_frame_bytes}
use Rattle.frame_ring.specs.declared.frame_bytes.Gathered.TheInside.{Inside as GatheredInside}

-- the bytes of a frame that were gathered, and for how many more there is room
pub record Gathering : Type 0 where
  pub bytes : List ℕ
  pub room : ℕ

abbrev pub nothing_gathered : Gathering
nothing_gathered = record { bytes = []; room = 0 }

abbrev pub gathering_seen : GatheredInside → Gathering
gathering_seen gathered = record { bytes = take gathered.filled gathered.bytes.items; room = length gathered.bytes.items - gathered.filled }

pub record IsGathered (gathered : GatheredInside) : Type 0 where
  pub filled : gathered.filled ≤ length gathered.bytes.items
  pub few : length gathered.bytes.items ≤ most_frame_bytes
