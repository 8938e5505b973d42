-- Steps on a table that are no steps of its lane: loads that move no slot, and seats that are split and joined. And a
-- cut stays, and is seen only if it was made.
use Rattle.std.specs.Prelude.{◌≡◌, ◌≢◌, ℕ, true, [], ◌∷◌, ◌++◌, slice_set}
use mathlib.Core.Option.{some}
use lib.ListN.{get_elem?}
use Rattle.table_lane.specs.Words.{cut_word}
use Rattle.table_lane.specs.Borders.{Slots}
use Rattle.table_lane.specs.Knowledge.{link_loaded, index_loaded, posted_loaded, flag_loaded}
use Rattle.table_lane.specs.Moment.{Moment, ShowsLane}
use Rattle.table_lane.specs.Plays.{Tells, sees_link, sees_index, stores_posted, sees_posted, stores_header, stores_flag, sees_flag, copies_frame, clears_flag, stores_index_out, sees_index_out, stores_index, cuts_link}
use Rattle.table_lane.specs.Rule.{Board, IsMoment, Sitter}
use Rattle.table_lane.specs.Views.{LaneView, PartKind, alone, table_joined, no_parts, the_cut, without}

-- A load that transfers no slot leaves the abstract lane unchanged: a load of the link word, the index word, a posted
-- header or a flag. The sender keeps the value of the link word.
pub record StillShown (N : ℕ) (m : Moment) (slots : Slots) (found : ℕ) : Type 0 where
  pub link : found ≡ m.words.link → ShowsLane N (record m { send = link_loaded m.send found }) slots
  pub index : ShowsLane N (record m { send = index_loaded m.send found }) slots
  pub posted : ShowsLane N (record m { mover = posted_loaded m.mover found }) slots
  pub flag : ShowsLane N (record m { recv = flag_loaded m.recv found }) slots

abbrev pub LoadsAreNoSteps : Type 0
LoadsAreNoSteps = (N : ℕ) (m : Moment) (slots : Slots) (found : ℕ) → ShowsLane N m slots → StillShown N m slots found

-- the sender keeps a word that says cut only if the link word says so, and the link was cut
abbrev pub SeenCutsAreMade : Type 0
SeenCutsAreMade = (N : ℕ) (m : Moment) (slots : Slots) → ShowsLane N m slots → m.send.link ≡ cut_word → (m.cut.cut ≡ true) × (m.words.link ≡ cut_word)

-- the moment, and its lane with it, is the same where a seat is split and where two are joined
abbrev pub SplitsAreNoSteps : Type 0
SplitsAreNoSteps = (N : ℕ) (m : Moment) (board : Board) (id : ℕ) (view : LaneView) (part : PartKind) → IsMoment N m board → get_elem? board.views id ≡ some view
    → IsMoment N m (record board { views = slice_set board.views id (without part view) ++ alone part view ∷ [] })

abbrev pub JoinsAreNoSteps : Type 0
JoinsAreNoSteps = (N : ℕ) (m : Moment) (board : Board) (id other : ℕ) (view second : LaneView) → IsMoment N m board → other ≢ id
    → get_elem? board.views id ≡ some view → get_elem? (slice_set board.views id (table_joined view second)) other ≡ some second
    → IsMoment N m (record board { views = slice_set (slice_set board.views id (table_joined view second)) other no_parts })

-- a seat that knows of the cut still knows of it after a step
abbrev pub KeepsCut : Tells → Type 0
KeepsCut tells = (before : Sitter) (found : ℕ) (after : Sitter) → tells before found after → (the_cut before.0).cut ≡ true → (the_cut after.0).cut ≡ true

-- a cut stays, whichever step is made
pub record CutStays : Type 0 where
  pub sees_link : KeepsCut sees_link
  pub sees_index : KeepsCut sees_index
  pub stores_posted : KeepsCut stores_posted
  pub sees_posted : KeepsCut sees_posted
  pub stores_header : (word : ℕ) → KeepsCut (stores_header word)
  pub stores_flag : KeepsCut stores_flag
  pub sees_flag : KeepsCut sees_flag
  pub copies_frame : KeepsCut copies_frame
  pub clears_flag : KeepsCut clears_flag
  pub stores_index_out : KeepsCut stores_index_out
  pub sees_index_out : KeepsCut sees_index_out
  pub stores_index : KeepsCut stores_index
  pub cuts_link : KeepsCut cuts_link
