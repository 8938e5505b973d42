-- One moment of a table: its words, the parts of its seats, and the lane that these show.
use Rattle.std.specs.Prelude.{◌≡◌, ℕ, List, [], ◌∷◌}
use Rattle.table_lane.specs.LaneNames.{Lane}
use Rattle.table_lane.specs.Words.{Words}
use Rattle.table_lane.specs.Views.{SendPart, MovePart, RecvPart, BackPart, CutPart, LaneView, parts_of}
use Rattle.table_lane.specs.Borders.{Slots}
use Rattle.table_lane.specs.ShownLane.{Shows}

pub record Moment : Type 0 where
  pub words : Words
  pub lane : Lane
  pub send : SendPart
  pub mover : MovePart
  pub recv : RecvPart
  pub back : BackPart
  pub cut : CutPart

-- each part belongs to one seat
pub record EachHasOneSeat (views : List LaneView) (s : SendPart) (m : MovePart) (r : RecvPart) (b : BackPart) (c : CutPart) : Type 0 where
  pub send : parts_of (λ view. view.send) views ≡ s ∷ []
  pub mover : parts_of (λ view. view.mover) views ≡ m ∷ []
  pub recv : parts_of (λ view. view.recv) views ≡ r ∷ []
  pub back : parts_of (λ view. view.back) views ≡ b ∷ []
  pub cut : parts_of (λ view. view.cut) views ≡ c ∷ []

-- each part knows the number of entries
pub record EachKnows (N : ℕ) (s m r b c : ℕ) : Type 0 where
  pub send : s ≡ N
  pub mover : m ≡ N
  pub recv : r ≡ N
  pub back : b ≡ N
  pub cut : c ≡ N

-- the table shows the moment's lane
abbrev pub ShowsLane : ℕ → Moment → Slots → Type 0
ShowsLane N m slots =
    Shows N m.words m.lane m.send.sent m.send.claims m.mover.flagged m.mover.held m.mover.stored m.recv.got m.recv.hand m.recv.phase m.back.freed m.back.index m.send.link m.cut.cut slots
