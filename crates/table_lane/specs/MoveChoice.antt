-- Which move the mover makes, and what it then knows.
use Rattle.std.specs.Prelude.{◌≡◌, ◌==◌, ◌+◌, ◌%◌, ℕ, suc, Bool, true, false, MatchBool, MatchOption, if◌then◌else◌, List, [], ◌∷◌, ◌++◌, length, map, slice_get, slice_index_or}
use Rattle.table_lane.specs.declared.parts.MovePart.{MovePart}
use Rattle.table_lane.specs.Words.{table_header_of}
use Rattle.table_lane.specs.Knowledge.{table_taken, posted_loaded, frame_taken, header_stored, flag_stored}
use Rattle.table_lane.specs.declared.mover.MoveAnswer.{MoveAnswer}
use Rattle.table_lane.specs.declared.mover.MoveAnswer.TheVariants.{Took, Header, Flag, Idle}

-- the held entries whose header isn't stored, from number n on
abbrev pub waiting : ℕ → List Bool → List ℕ
waiting n [] = []
waiting n (true ∷ stored) = waiting (suc n) stored
waiting n (false ∷ stored) = n ∷ waiting (suc n) stored

-- The open moves: the header of each held entry that waits for it, by rising number, and the flag of the lowest held
-- entry where its header is stored.
abbrev pub open_moves : MovePart → List MoveAnswer
open_moves part = map Header (waiting part.flagged part.stored) ++ (if slice_index_or part.stored 0 false then Flag part.flagged ∷ [] else [])

abbrev pub after_move : MovePart → MoveAnswer → MovePart
after_move part (Took n) = part
after_move part (Header n) = header_stored part n
after_move part (Flag n) = flag_stored part
after_move part Idle = part

-- this move is made, and named
abbrev pub Makes : MovePart → MoveAnswer → MoveAnswer → MovePart → Type 0
Makes before move answer after = (answer ≡ move) × (after ≡ after_move before move)

abbrev pub MakesFirst : List MoveAnswer → MovePart → MoveAnswer → MovePart → Type 0
MakesFirst [] before answer after = (answer ≡ Idle) × (after ≡ before)
MakesFirst (move ∷ moves) before answer after = Makes before move answer after

-- the posted header of the next entry is loaded: where it is new, the entry is taken; else the first open move is
-- made, if there is one
abbrev pub TakesOrMakes : List MoveAnswer → MovePart → MoveAnswer → MovePart → Type 0
TakesOrMakes moves before answer after =
    let found = after.posted in
    let seen = posted_loaded before found in
    MatchBool (found == table_header_of (table_taken before)) ((answer ≡ Took (table_taken before)) × ((frame : List ℕ) × (after ≡ frame_taken seen frame))) (MakesFirst moves seen answer after)

-- of k open moves and the load, the one whose number is the choice modulo k + 1
abbrev pub Moves : MovePart → ℕ → MoveAnswer → MovePart → Type 0
Moves before choice answer after =
    let moves = open_moves before in
    MatchOption (slice_get moves (choice % (length moves + 1))) (TakesOrMakes moves before answer after) (λ move. Makes before move answer after)
