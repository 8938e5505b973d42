-- What is left of a source, and what a sink holds, after many reads or writes, if it is told (`Some`).
use Rattle.std.specs.Prelude.{◌≡◌, ℕ, ◌+◌, ◌<◌, ◌≤◌, List, ◌++◌, length, take, Option, Some, None}

-- These bytes were the front of the content, and what is left is the rest of it. Content that isn't told stays so.
abbrev pub HasGiven : Option (List ℕ) → Option (List ℕ) → List ℕ → Type 0
HasGiven None left bytes = left ≡ None
HasGiven (Some content) left bytes = (rest : List ℕ) × (content ≡ bytes ++ rest) × (left ≡ Some rest)

-- The source has given a front of its content, of at most this many bytes.
abbrev pub HasGivenAtMost : ℕ → Option (List ℕ) → Option (List ℕ) → Type 0
HasGivenAtMost most before left = (front : List ℕ) × (length front ≤ most) × HasGiven before left front

-- The source has given a front of its content, of at most this many bytes, and each read but the last one gave a byte
-- of it.
abbrev pub HasGivenAtReads : ℕ → Option (List ℕ) → Option (List ℕ) → ℕ → ℕ → Type 0
HasGivenAtReads most before left reads reads' =
    (front : List ℕ) × (length front ≤ most) × (reads' ≤ reads + length front + 1) × HasGiven before left front

-- The source has given a piece, which stands after the bytes that were there.
pub record AddsPiece (before left : Option (List ℕ)) (old new : List ℕ) : Type 0 where
  pub piece : List ℕ
  pub added : new ≡ old ++ piece
  pub given : HasGiven before left piece

-- All of the piece stands after what was held.
abbrev pub HoldsAll : Option (List ℕ) → Option (List ℕ) → List ℕ → Type 0
HoldsAll None held piece = held ≡ None
HoldsAll (Some content) held piece = held ≡ Some (content ++ piece)

-- A part from the front of the piece, and not all of it, stands after what was held.
abbrev pub HoldsPart : Option (List ℕ) → Option (List ℕ) → List ℕ → Type 0
HoldsPart None held piece = held ≡ None
HoldsPart (Some content) held piece =
    (count : ℕ) × (count < length piece) × (held ≡ Some (content ++ take count piece))

-- A part from the front of the piece, and not all of it, stands after what was held, and each write but the last one
-- took a byte of it.
abbrev pub HoldsPartAtWrites : Option (List ℕ) → Option (List ℕ) → List ℕ → ℕ → ℕ → Type 0
HoldsPartAtWrites before held piece writes writes' =
    (count : ℕ) × (count < length piece) × (writes' ≤ writes + count + 1) × HoldsAll before held (take count piece)
