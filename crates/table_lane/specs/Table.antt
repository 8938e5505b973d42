-- A table that is a lane's, and what a step on it leaves.
use Rattle.std.specs.Prelude.{◌≡◌, ◌≤◌, ℕ}
use Rattle.atomic_table.specs.Seated.{TableId}
use Rattle.atomic_table.specs.declared.shared.Seat.{Seat}
use Rattle.step_kinds.specs.Limits.{most_traffic_entries}
use Rattle.table_lane.specs.declared.parts.LaneView.{LaneView}
use Rattle.table_lane.specs.Plays.{Tells}
use Rattle.table_lane.specs.Rule.{Content}
use Rattle.table_lane.specs.Words.{words_in}

-- a lane's table of N entries: this many words and slots, and N for its key
pub record IsTableOf (N : ℕ) (id : TableId) (about : ℕ) : Type 0 where
  pub words : id.words ≡ words_in N
  pub slots : id.slots ≡ N
  pub key : about ≡ N
  pub two : 2 ≤ N
  pub small : N ≤ most_traffic_entries

-- after a step that loads or stores this value of a word a seat is at its table still, and is as the step tells
pub record StepTells (told : Tells) (before : Seat Content LaneView) (word : ℕ) (after : Seat Content LaneView) : Type 0 where
  pub table : after.table_id ≡ before.table_id
  pub tells : told before.me word after.me
