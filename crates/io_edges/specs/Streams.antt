-- What one read and one write do to the bytes of a stream, if those are told (`Some`).
use Rattle.std.specs.Prelude.{◌≡◌, ◌⊎◌, ℕ, ◌≤◌, List, [], ◌++◌, length, take, drop, MatchResult, Option, Result, Some, None}

-- The buffer begins with the first bytes of the content, this many, and the others are left. There are none only if the
-- buffer has no room or the content is at its end.
pub record TakesFront (content : List ℕ) (left : Option (List ℕ)) (count : ℕ) (buffer : List ℕ) : Type 0 where
  pub front : take count buffer ≡ take count content
  pub there : count ≤ length content
  pub rest : left ≡ Some (drop count content)
  pub ends : count ≡ 0 → (length buffer ≡ 0) ⊎ (content ≡ [])

-- A read took the front of the bytes that were left, and at an error nothing. Content that isn't told stays so.
abbrev pub Reads : {E : Type 0} → Option (List ℕ) → Option (List ℕ) → Result ℕ E → List ℕ → Type 0
Reads None left result buffer = left ≡ None
Reads (Some content) left result buffer =
    MatchResult result (λ count. TakesFront content left count buffer) (λ _. left ≡ Some content)

-- A write put the first bytes of the piece after those that were held, as many as it says, and at an error nothing.
-- Content that isn't told stays so.
abbrev pub Writes : {E : Type 0} → Option (List ℕ) → Option (List ℕ) → Result ℕ E → List ℕ → Type 0
Writes None held result piece = held ≡ None
Writes (Some content) held result piece =
    MatchResult result (λ count. held ≡ Some (content ++ take count piece)) (λ _. held ≡ Some content)
