-- Numbers as frames: four bytes, the lowest first.
use Rattle.std.specs.Prelude.{◌≡◌, ℕ, ◌≤◌, ◌==◌, if◌then◌else◌, max, List, [], ◌∷◌, length, Option, Some, None, unwrap_or}
use Rattle.byteorder.specs.Endian.{little_bytes, little_number}

-- the frame that says a number
unfoldable pub number_frame : ℕ → List ℕ
number_frame number = little_bytes 4 number

-- the number that a frame says, if it has four bytes
unfoldable pub number_in : List ℕ → Option ℕ
number_in frame = if length frame == 4 then Some (little_number 4 frame) else None

-- a frame says a number that is at most this
abbrev pub SaysAtMost : ℕ → List ℕ → Type 0
SaysAtMost most frame = (number : ℕ) × (number ≤ most) × (frame ≡ number_frame number)

-- the largest number that frames say, or 0; a frame that hasn't four bytes says none
abbrev pub largest_in : List (List ℕ) → ℕ
largest_in [] = 0
largest_in (frame ∷ frames) = max (unwrap_or (number_in frame) 0) (largest_in frames)
