-- Each step of the mover and of the way back raises what it counts.
use Rattle.std.proofs.Common.{◌≡◌, ℕ, zero, suc, ◌+◌, ◌%◌, ◌≤◌, Bool, true, false, List, [], ◌∷◌, ◌++◌, length, eqb, get_or, map, if◌then◌else◌, arith, refl, sym, ap, subst}
use Rattle.std.specs.Prelude.{slice_get, MatchBool, MatchOption}
use Rattle.table_lane.specs.declared.parts.MovePart.{MovePart}
use Rattle.table_lane.specs.declared.parts.BackPart.{BackPart}
use Rattle.table_lane.specs.Words.{table_header_of}
use Rattle.table_lane.specs.Knowledge.{table_taken, posted_loaded, frame_taken, index_out_loaded, index_stored}
use Rattle.table_lane.specs.declared.mover.MoveAnswer.{MoveAnswer}
use Rattle.table_lane.specs.declared.mover.MoveAnswer.TheVariants.{Took, Header, Flag}
use Rattle.table_lane.specs.MoveChoice.{waiting, open_moves, after_move, Makes, MakesFirst, TakesOrMakes}
use Rattle.table_lane.specs.Tries.{tries, EachMoveIsATry, EachStepBackIsALoad}

-- a part that was tried with more often, in a ring of as many entries
record Raised (before after : MovePart) : Type 0 where
  pub more : tries before + 1 ≤ tries after
  pub of : after.entries ≡ before.entries

-- a move that stores a header or a flag
abbrev Stores : MoveAnswer → Type 0
Stores move = (part : MovePart) → Raised part (after_move part move)

-- each of these moves does
abbrev AllStore : List MoveAnswer → Type 0
AllStore [] = Unit {0}
AllStore (move ∷ moves) = Stores move × AllStore moves

flag_raises : (n : ℕ) (b : Bool) → AllStore (if b then Flag n ∷ [] else [])
flag_raises n true = ((λ part. record { more = omega arith; of = refl }), tt)
flag_raises n false = tt

headers_raise : (ns : List ℕ) (moves : List MoveAnswer) → AllStore moves → AllStore (map Header ns ++ moves)
headers_raise [] moves raise = raise
headers_raise (n ∷ ns) moves raise = ((λ part. record { more = omega arith; of = refl }), headers_raise ns moves raise)

open_raise : (part : MovePart) → AllStore (open_moves part)
open_raise part = headers_raise (waiting part.flagged part.stored) _ (flag_raises part.flagged (get_or part.stored 0 false))

made_raises : (before after : MovePart) (move answer : MoveAnswer) → Stores move → Makes before move answer after → Raised before after
made_raises before after move answer stores made = subst (λ (p : MovePart). Raised before p) (sym made.1) (stores before)

-- a load of the posted header is a try, and a move after it leaves it counted
loaded_raises : (before after : MovePart) (found : ℕ) → Raised (posted_loaded before found) after → Raised before after
loaded_raises before after found raised = record { more = omega (arith, raised.more); of = raised.of }

first_raises : (moves : List MoveAnswer) (before after : MovePart) (found : ℕ) (answer : MoveAnswer) → AllStore moves → MakesFirst moves (posted_loaded before found) answer after → Raised before after
first_raises [] before after found answer raise made = subst (λ (p : MovePart). Raised before p) (sym made.1) (record { more = omega arith; of = refl })
first_raises (move ∷ moves) before after found answer raise made = loaded_raises before after found (made_raises (posted_loaded before found) after move answer raise.0 made)

taken_raises : (before after : MovePart) (found : ℕ) (frame : List ℕ) → after ≡ frame_taken (posted_loaded before found) frame → Raised before after
taken_raises before after found frame is = subst (λ (p : MovePart). Raised before p) (sym is) (record { more = omega arith; of = refl })

load_raises : (new : Bool) (moves : List MoveAnswer) (before after : MovePart) (found : ℕ) (answer : MoveAnswer) → AllStore moves
    → MatchBool new ((answer ≡ Took (table_taken before)) × ((frame : List ℕ) × (after ≡ frame_taken (posted_loaded before found) frame))) (MakesFirst moves (posted_loaded before found) answer after)
    → Raised before after
load_raises true moves before after found answer raise took = taken_raises before after found took.1.0 took.1.1
load_raises false moves before after found answer raise made = first_raises moves before after found answer raise made

chosen_raises : (moves : List MoveAnswer) (k : ℕ) (all : List MoveAnswer) (before after : MovePart) (answer : MoveAnswer) → AllStore moves → AllStore all
    → MatchOption (slice_get moves k) (TakesOrMakes all before answer after) (λ move. Makes before move answer after)
    → Raised before after
chosen_raises [] k all before after answer raise raise_all made = load_raises (eqb after.posted (table_header_of (table_taken before))) all before after after.posted answer raise_all made
chosen_raises (move ∷ moves) zero all before after answer raise raise_all made = made_raises before after move answer raise.0 made
chosen_raises (move ∷ moves) (suc k) all before after answer raise raise_all made = chosen_raises moves k all before after answer raise.1 raise_all made

-- Each step of the mover is at least one try more, and leaves the ring's number of entries.
pub each_move_is_a_try : EachMoveIsATry
each_move_is_a_try before choice answer after moves =
    let open_all = open_raise before in
    let raised = chosen_raises (open_moves before) (choice % (length (open_moves before) + 1)) (open_moves before) before after answer open_all open_all moves in
    (raised.more, raised.of)

-- what the way back knows after its load, whether it stores the index or not
after_load : (new : Bool) (before after : BackPart) (found : ℕ) → after ≡ (if new then index_out_loaded before found else index_stored (index_out_loaded before found)) → (after.loads ≡ before.loads + 1) × (after.entries ≡ before.entries)
after_load true before after found is = (ap (λ (p : BackPart). p.loads) is, ap (λ (p : BackPart). p.entries) is)
after_load false before after found is = (ap (λ (p : BackPart). p.loads) is, ap (λ (p : BackPart). p.entries) is)

-- Each step of the way back is just one load more, and leaves the ring's number of entries.
pub each_step_back_is_a_load : EachStepBackIsALoad
each_step_back_is_a_load before answer after gives = after_load _ before after after.index gives.1
