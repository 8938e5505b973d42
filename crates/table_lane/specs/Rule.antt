-- The rule of a table: between any two steps it shows a lane with the law of the ring, and each part and each slot
-- has one owner.
use Rattle.std.specs.Prelude.{◌≡◌, ℕ, Option}
use Rattle.atomic_table.specs.Table.{State, Me}
use Rattle.table_lane.specs.Words.{AreSized, table_words_of}
use Rattle.table_lane.specs.Views.{TableBytes, LaneView}
use Rattle.table_lane.specs.Moment.{Moment, EachHasOneSeat, EachKnows, ShowsLane}

abbrev pub Content : Type 0
Content = Option TableBytes

abbrev pub Board : Type 0
Board = State Content LaneView

abbrev pub Sitter : Type 0
Sitter = Me Content LaneView

pub record IsMoment (N : ℕ) (moment : Moment) (board : Board) : Type 0 where
  pub words : board.words ≡ table_words_of moment.words
  pub sized : AreSized N moment.words
  pub seats : EachHasOneSeat board.views moment.send moment.mover moment.recv moment.back moment.cut
  pub knows : EachKnows N moment.send.entries moment.mover.entries moment.recv.entries moment.back.entries moment.cut.entries
  pub shows : ShowsLane N moment board.homes

abbrev pub ShowsALane : ℕ → Board → Type 0
ShowsALane N board = (moment : Moment) × IsMoment N moment board
