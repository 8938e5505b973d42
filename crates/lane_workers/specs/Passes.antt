-- What the passes of a lane's workers are told by.
use Rattle.std.specs.Prelude.{◌≢◌, ◌≤◌, ◌<◌, ◌+◌, List, [], ℕ, All}

-- each frame has at least one byte, as a sender asks of it
abbrev pub HaveBytes : List (List ℕ) → Type 0
HaveBytes frames = All (λ frame. frame ≢ []) frames

-- the gate that lets these pass lets the worker pass before each of this many turns, from the first on
abbrev pub LetsTurns : (ℕ → ℕ → Type 0) → ℕ → ℕ → ℕ → Type 0
LetsTurns lets worker first turns = (turn : ℕ) → first ≤ turn → turn < first + turns → lets worker turn
