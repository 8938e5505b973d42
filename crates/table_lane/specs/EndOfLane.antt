-- One seat with all five parts, in which a lane ends, and what its proof shows.
use Rattle.std.specs.Prelude.{◌≡◌, ℕ, Bool, true, List, [], ◌∷◌, take}
use Rattle.atomic_table.specs.Seated.{TableId}
use Rattle.table_lane.specs.declared.parts.MovePart.{MovePart}
use Rattle.table_lane.specs.declared.parts.LaneView.{LaneView}
use Rattle.table_lane.specs.Words.{cut_word}
use Rattle.table_lane.specs.Rule.{Sitter}
use Rattle.table_lane.specs.Views.{no_parts, the_send, the_recv, the_cut, HasSend, HasMove, HasRecv, HasBack, HasCut}

-- a seat that has all parts, and no slot
pub record HasAll (me : Sitter) : Type 0 where
  pub send : HasSend me.0
  pub mover : HasMove me.0
  pub recv : HasRecv me.0
  pub back : HasBack me.0
  pub cut : HasCut me.0
  pub no_slots : me.1 ≡ []

-- its mover holds nothing, and takes entry n next
pub record MovesNext (N n : ℕ) (part : MovePart) : Type 0 where
  pub of : part.entries ≡ N
  pub flagged : part.flagged ≡ n
  pub nothing_held : part.held ≡ []
  pub no_marks : part.stored ≡ []

-- the sender's part and the cut's are as before
pub record TableOthersStay (before after : LaneView) : Type 0 where
  pub send : the_send after ≡ the_send before
  pub cut : the_cut after ≡ the_cut before

-- a cut that its sender has seen was made
abbrev pub CutIsMade : LaneView → Type 0
CutIsMade view = (the_send view).link ≡ cut_word → (the_cut view).cut ≡ true

-- a seat goes on at its table with all parts, and the sender's and the cut's are as before
pub record TableGoesOn (table_before table_after : TableId) (before after : Sitter) : Type 0 where
  pub table : table_after ≡ table_before
  pub all : HasAll after
  pub others : TableOthersStay before.0 after.0

-- what a lane's proof shows: the frames that were sent, those that were received before the end, the number of
-- entries, and whether the link was cut
pub record Shown : Type 0 where
  pub sent : List (List ℕ)
  pub got : List (List ℕ)
  pub entries : ℕ
  pub cut : Bool

-- the one view of a badge
abbrev pub view_in : List LaneView → LaneView
view_in [] = no_parts
view_in (view ∷ views) = view

abbrev pub shown_by : LaneView → ℕ → Shown
shown_by view got = record { sent = (the_send view).sent; got = take got (the_recv view).got; entries = (the_send view).entries; cut = (the_cut view).cut }
