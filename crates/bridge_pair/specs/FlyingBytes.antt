-- The bytes of a write in flight as they are kept.
use Rattle.std.specs.Prelude.{ℕ, ◌≤◌, List, take}
use Rattle.step_kinds.specs.Limits.{most_write_bytes}
use Rattle.bridge_pair.specs.declared.flying_bytes.FlyingBytes.TheInside.{Inside}
use Rattle.bridge_pair.specs.declared.flying_bytes.Kept.{Kept}
use Rattle.bridge_pair.specs.declared.flying_bytes.Kept.TheVariants.{Few, Many}

-- the most bytes that stand in place
abbrev pub most_few_bytes : ℕ
most_few_bytes = 8

-- all bytes of the place where they stand
abbrev pub flying_place_of : Kept → List ℕ
flying_place_of (Few bytes) = bytes
flying_place_of (Many buffer) = buffer.value

abbrev pub flying_bytes_seen : Inside → List ℕ
flying_bytes_seen bytes = take bytes.len (flying_place_of bytes.kept)

-- this many bytes fit the place
abbrev pub Fit : ℕ → Kept → Type 0
Fit len (Few bytes) = len ≤ most_few_bytes
Fit len (Many buffer) = len ≤ most_write_bytes

abbrev pub AreKept : Inside → Type 0
AreKept bytes = Fit bytes.len bytes.kept
