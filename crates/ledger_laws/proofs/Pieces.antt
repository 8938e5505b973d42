-- The pieces of a frame: one at least, of this many bytes each, and joined they are the frame.
use Rattle.std.proofs.Common.{◌≡◌, ℕ, zero, suc, ◌<◌, List, ◌∷◌, length, map, refl, ◌∙◌, arith}
use Rattle.std.proofs.lemmas.List.{length-map}
use Rattle.lane_model.specs.Lane.{Entry, count_from}
use Rattle.lane_laws.proofs.Facade.{length-count_from}
use Rattle.ledger_model.specs.Pieces.{piece_of, pieces_of}
use Rattle.pair_model.specs.Sizes.{pieces_in}

pub record HasPieces (largest : ℕ) (bytes : List ℕ) : Type 0 where
  pub first : Entry
  pub others : List Entry
  pub same : pieces_of largest bytes ≡ first ∷ others

some_mapped : (f : ℕ → Entry) (n : ℕ) → 0 < n → (first : Entry) × (others : List Entry) × (map f (count_from 0 n) ≡ first ∷ others)
some_mapped f zero some = absurd (omega arith)
some_mapped f (suc n) some = (f 0, map f (count_from 1 n), refl)

-- Each frame is cut into one piece at least.
pub has_pieces : (largest : ℕ) (bytes : List ℕ) → HasPieces largest bytes
has_pieces largest bytes =
    let found = some_mapped (piece_of largest bytes) (pieces_in largest (length bytes)) (omega arith) in
    record { first = found.0; others = found.1; same = found.2 }

-- A frame is cut into as many pieces as a frame of its length takes.
pub length-pieces : (largest : ℕ) (bytes : List ℕ) → length (pieces_of largest bytes) ≡ pieces_in largest (length bytes)
length-pieces largest bytes =
    length-map (count_from 0 (pieces_in largest (length bytes))) (piece_of largest bytes) ∙ length-count_from 0 (pieces_in largest (length bytes))
