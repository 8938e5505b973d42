-- Frames of one byte each.
use Rattle.std.proofs.Common.{ℕ, List, [], ◌∷◌}
use Rattle.std.specs.Prelude.{◌≢◌}
use Rattle.std.proofs.lemmas.List.Elements.{All-cons, All-nil}
use Rattle.lane_workers.specs.Passes.{HaveBytes}

has_byte : (byte : ℕ) → byte ∷ [] ≢ []
has_byte byte none = cc

with_first : (byte : ℕ) (frames : List (List ℕ)) → HaveBytes frames → HaveBytes ((byte ∷ []) ∷ frames)
with_first byte frames have = All-cons (λ frame. frame ≢ []) (byte ∷ []) frames (has_byte byte) have

-- Two frames of one byte each have at least one byte each, as a sender asks of frames.
pub two_have_bytes : (first second : ℕ) → HaveBytes ((first ∷ []) ∷ (second ∷ []) ∷ [])
two_have_bytes first second = with_first first ((second ∷ []) ∷ []) (with_first second [] (All-nil (λ frame. frame ≢ [])))
