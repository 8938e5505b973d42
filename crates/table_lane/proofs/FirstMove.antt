-- The mover makes its first open move where the load that was chosen showed nothing new.
use Rattle.std.proofs.Common.{◌≡◌, ℕ, ◌+◌, ◌%◌, ◌<◌, ◌≤◌, false, List, [], ◌∷◌, length, arith, refl, sym, ap, ◌∙◌, subst, eqb, get_or, map, length-append, Bool, true, if◌then◌else◌, Some, None}
use Rattle.std.proofs.lemmas.List.{length-map}
use Rattle.std.proofs.lemmas.Option.{slice_get_past}
use Rattle.std.specs.Prelude.{slice_get, MatchBool}
use Rattle.table_lane.specs.declared.parts.MovePart.{MovePart}
use Rattle.table_lane.specs.Words.{table_header_of}
use Rattle.table_lane.specs.Knowledge.{table_taken, posted_loaded, frame_taken}
use Rattle.table_lane.specs.declared.mover.MoveAnswer.{MoveAnswer}
use Rattle.table_lane.specs.declared.mover.MoveAnswer.TheVariants.{Took, Header, Flag, Idle}
use Rattle.table_lane.specs.MoveChoice.{waiting, open_moves, after_move, Makes, MakesFirst, Moves}

-- a move loads no posted header
keeps_load : (part : MovePart) (move : MoveAnswer) → (after_move part move).posted ≡ part.posted
keeps_load part (Took n) = refl
keeps_load part (Header n) = refl
keeps_load part (Flag n) = refl
keeps_load part Idle = refl

first_is : (moves : List MoveAnswer) (seen : MovePart) (answer : MoveAnswer) (after : MovePart) → 0 < length moves → ((move : MoveAnswer) → slice_get moves 0 ≡ Some move → Makes seen move answer after)
    → MakesFirst moves seen answer after × (after.posted ≡ seen.posted)
first_is [] seen answer after some makes = absurd (omega arith)
first_is (move ∷ moves) seen answer after some makes = let made = makes move refl in (made, ap (λ (p : MovePart). p.posted) made.1 ∙ keeps_load seen move)

-- If the choice is the load and the header loaded isn't new, the mover makes its first open move, if there is one.
pub makes_first : (before seen after : MovePart) (found choice : ℕ) (answer : MoveAnswer) → seen ≡ posted_loaded before found → eqb found (table_header_of (table_taken before)) ≡ false
    → length (open_moves before) ≤ choice % (length (open_moves before) + 1) → 0 < length (open_moves before) → ((move : MoveAnswer) → slice_get (open_moves seen) 0 ≡ Some move → Makes seen move answer after)
    → Moves before choice answer after
makes_first before seen after found choice answer loaded old past some makes =
    let moves : List MoveAnswer = open_moves before in
    let first = first_is moves (posted_loaded before found) answer after some (subst (λ (p : MovePart). (move : MoveAnswer) → slice_get (open_moves p) 0 ≡ Some move → Makes p move answer after) loaded makes) in
    let none : slice_get moves (choice % (length moves + 1)) ≡ None = slice_get_past moves (choice % (length moves + 1)) past in
    let same : after.posted ≡ found = first.1 in
    let P : ℕ → Type 0 = λ f.
    let seen_then : MovePart = posted_loaded before f in
    MatchBool (eqb f (table_header_of (table_taken before))) ((answer ≡ Took (table_taken before)) × ((frame : List ℕ) × (after ≡ frame_taken seen_then frame))) (MakesFirst moves seen_then answer after) in
    let at_found : P found = rw old first.0 in
    rw none (subst P (sym same) at_found)

-- how many moves are open
pub open_length : (part : MovePart) → length (open_moves part) ≡ length (waiting part.flagged part.stored) + (if get_or part.stored 0 false then 1 else 0)
open_length part =
    length-append (map Header (waiting part.flagged part.stored)) (if get_or part.stored 0 false then Flag part.flagged ∷ [] else [])
    ∙ (λ i. length-map (waiting part.flagged part.stored) Header i + one_or_none (get_or part.stored 0 false) i)
  where
    one_or_none : (b : Bool) → length (if b then Flag part.flagged ∷ [] else []) ≡ (if b then 1 else 0)
    one_or_none true = refl
    one_or_none false = refl
