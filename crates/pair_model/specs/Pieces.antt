-- A frame cut into pieces, one for each entry that it takes. Where a frame fits one slot it is one piece.
use Rattle.std.specs.Prelude.{ℕ, ◌-◌, ◌*◌, List, length, map, take, drop}
use Rattle.lane_model.specs.Lane.{Entry, Carries, count_from}
use Rattle.pair_model.specs.Sizes.{pieces_in}

-- piece k of a frame: pieces are cut from the frame's start, and the last one may be shorter
abbrev pub piece_of : ℕ → List ℕ → ℕ → Entry
piece_of largest bytes k = Carries (take largest (drop (largest * k) bytes)) (pieces_in largest (length bytes) - 1 - k)

abbrev pub pieces_of : ℕ → List ℕ → List Entry
pieces_of largest bytes = map (piece_of largest bytes) (count_from 0 (pieces_in largest (length bytes)))
