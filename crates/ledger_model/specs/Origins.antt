-- Where the frames in a switch come from.
use Rattle.std.specs.Prelude.{ℕ, List}
use Rattle.step_kinds.specs.declared.names.LaneName.{LaneName}

-- a frame on a lane, by the session of the lane's pair and the number that it was answered with there
pub record Origin : Type 0 where
  pub lane : LaneName
  pub session : ℕ
  pub number : ℕ

-- the bytes of a frame, with the delivery that it was relayed from
pub record Carried : Type 0 where
  pub bytes : List ℕ
  pub origin : Origin

-- a frame that left a switch, and where it was begun
pub record Passage (F : Type 0) : Type 0 where
  pub frame : F
  pub begun : Origin

-- what a switch keeps of the frames that are delivered to it: its frames have bytes, and each is made of a delivery
pub record Keeping (F : Type 0) : Type 0 where
  pub bytes_of : F → List ℕ
  pub keep : Origin → List ℕ → F

-- the bytes alone
abbrev pub bytes_kept : Keeping (List ℕ)
bytes_kept = record { bytes_of = λ bytes. bytes; keep = λ origin bytes. bytes }

-- the bytes and their origin
abbrev pub origins_kept : Keeping Carried
origins_kept = record { bytes_of = λ frame. frame.bytes; keep = λ origin bytes. record { bytes = bytes; origin = origin } }
