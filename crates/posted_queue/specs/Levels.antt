-- How the parts of a level stand in its row.
use Rattle.std.specs.Prelude.{◌≡◌, ℕ, ◌≤◌, suc, List, [], length, drop}
use Rattle.posted_queue.specs.Rows.{PartState, row_writes_in, row_room_in}

-- the number of the last part in use is at most the row's length, no write stands after it, and the room is there from
-- it on
pub record IsLevel {W : Type 0} (row : List (PartState W)) (last : ℕ) (room : ℕ) : Type 0 where
  pub in_row : last ≤ length row
  pub behind : row_writes_in (drop (suc last) row) ≡ []
  pub room_there : room ≤ row_room_in (drop last row)
